use Rattle.std.proofs.Common.{◌≡◌, ◌-◌, ◌≤◌, length, Ok}
use Rattle.tables.specs.DirtyOps.{dirty}
use Rattle.volume.specs.Mounting.{records_redone}
use Rattle.volume.specs.Recovering.{redone_in}
use Rattle.volume.proofs.recovered.Rebuilt.redo_records.Given as goal

-- the records so far are redone; so no more operations are dirty than records were read
abbrev pub invariant-loop-n : goal.invariant-loop-n
invariant-loop-n g l =
    (Ok (redone_in l.self) ≡ records_redone g.K.Kind.meaning (g.L.Medium.model l.log.log.now) l.first (l.n - l.first) (redone_in l.initial.self))
    × (length (dirty l.self.dirty) ≤ l.n - l.first)
    × (l.next ≤ l.first → l.n ≡ l.first)
