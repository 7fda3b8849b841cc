use Rattle.std.proofs.Common.{None}
use Rattle.media.specs.Plans.{Ran}
use Rattle.stores.specs.Images.{pictured}
use Rattle.stores.proofs.PlanLaws.{up_to}
use Rattle.stores.proofs.blocks.write_images.Given as goal

-- the pages so far have been written
abbrev pub invariant-loop-number : goal.invariant-loop-number
invariant-loop-number g l = Ran (g.M.Medium.model l.initial.medium) (up_to l.upper l.set (pictured l.images) l.number) None (g.M.Medium.model l.medium)
