use Rattle.std.proofs.Common.{◌≡◌, ℕ}
use Rattle.volume.specs.Working.{image_at}
use Rattle.volume.proofs.WorkingLaws.{written_to}
use Rattle.volume.proofs.pages.WorkingPages.scatter.Given as goal

-- the pages so far have their contents
abbrev pub invariant-loop-page : goal.invariant-loop-page
invariant-loop-page l = (q : ℕ) → image_at l.self.images q ≡ written_to l.set l.number l.new (image_at l.initial.self.images) l.page q
