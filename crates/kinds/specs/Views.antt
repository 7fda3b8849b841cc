-- The code's operation as an action.
use Rattle.std.specs.Prelude.{Some, None, Option}
use Rattle.kinds.specs.declared.op.Op.{Op}
use Rattle.kinds.specs.declared.op.Op.TheVariants.{Patch, Fill, Copy, Swap}
use Rattle.kinds.specs.Actions.{Action, patch, fill, copy, swap}

abbrev pub view : Op → Action
view (Patch page offset bytes) = patch page offset bytes.now
view (Fill page byte) = fill page byte
view (Copy from to count) = copy from to count
view (Swap a b) = swap a b

abbrev pub viewed : Option Op → Option Action
viewed (Some o) = Some (view o)
viewed None = None
