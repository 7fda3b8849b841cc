use Rattle.std.proofs.Common.{◌≡◌, ◌-◌, ◌≤◌, None}
use Rattle.volume.specs.Mounting.{records_fault}
use Rattle.volume.proofs.log_reader.LogReader.check_records.Given as goal

-- the records so far are without fault
abbrev pub invariant-loop-n : goal.invariant-loop-n
invariant-loop-n g l =
    (None ≡ records_fault g.K.Kind.meaning (g.L.Medium.model l.self.log.now) l.first (l.n - l.first)) × (l.next ≤ l.first → l.n ≡ l.first)
