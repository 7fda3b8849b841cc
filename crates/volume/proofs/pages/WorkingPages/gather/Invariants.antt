use Rattle.std.proofs.Common.{◌≡◌, ◌*◌, take}
use Rattle.sets.specs.Sets.{has, count}
use Rattle.volume.specs.Working.{image_at}
use Rattle.volume.proofs.WorkingLaws.{gathered_to}
use Rattle.volume.proofs.pages.WorkingPages.gather.Given as goal

-- the contents of the pages so far stand in front
abbrev pub invariant-loop-number : goal.invariant-loop-number
invariant-loop-number l = take (224 * count (has l.set) l.number) l.old ≡ gathered_to l.set (image_at l.self.images) l.number
