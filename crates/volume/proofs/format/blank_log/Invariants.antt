use Rattle.std.proofs.Common.{None}
use Rattle.media.specs.Plans.{Ran}
use Rattle.volume.proofs.FormatLaws.{blanks_to}
use Rattle.volume.proofs.format.blank_log.Given as goal

-- the blocks so far are written
abbrev pub invariant-loop-block : goal.invariant-loop-block
invariant-loop-block g l = Ran (g.L.Medium.model l.initial.log) (blanks_to l.block) None (g.L.Medium.model l.log)
