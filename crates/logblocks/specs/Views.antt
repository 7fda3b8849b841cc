-- The code's record as what it says.
use Rattle.std.specs.Prelude.{Some, None, Option}
use Rattle.logblocks.specs.declared.record.Record.{Record}
use Rattle.logblocks.specs.Blocks.{Entry}

-- a record of the code, its body read
abbrev pub view : Record → Entry
view r = record { number = r.number; reads = r.reads; writes = r.writes; body = r.body.now }

abbrev pub viewed : Option Record → Option Entry
viewed (Some r) = Some (view r)
viewed None = None
