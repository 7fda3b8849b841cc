use Rattle.std.proofs.Common.{None}
use Rattle.media.specs.Media.{block_at}
use Rattle.media.specs.Plans.{Ran}
use Rattle.stores.specs.Images.{image_of}
use Rattle.stores.specs.Layout.{slot}
use Rattle.stores.specs.Plans.{every_page}
use Rattle.stores.proofs.PlanLaws.{up_to}
use Rattle.stores.proofs.blocks.bring_all_home.Given as goal

-- the pages so far have been copied home
abbrev pub invariant-loop-number : goal.invariant-loop-number
invariant-loop-number g l =
    Ran (g.M.Medium.model l.initial.medium) (up_to 0 l.mark (λ p. image_of (block_at (g.M.Medium.model l.initial.medium) (slot every_page p))) l.number) None (g.M.Medium.model l.medium)
