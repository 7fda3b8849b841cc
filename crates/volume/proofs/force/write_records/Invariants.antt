use Rattle.std.proofs.Common.{ℕ, List, drop, Option}
use Rattle.faults.specs.Faults.{Report}
use Rattle.media.specs.Media.{Device}
use Rattle.volume.specs.Forcing.{Logged}
use Rattle.volume.proofs.force.write_records.Given as goal

-- whatever becomes of the records from i on, becomes of all
abbrev pub invariant-loop-i : goal.invariant-loop-i
invariant-loop-i g l =
    (o : Option Report) (m : Device) (left : List (List ℕ)) → Logged (g.L.Medium.model l.log) (drop l.i l.blocks) o m left → Logged (g.L.Medium.model l.initial.log) l.blocks o m left
