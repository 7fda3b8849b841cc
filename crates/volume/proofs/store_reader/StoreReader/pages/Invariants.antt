use Rattle.std.proofs.Common.{◌≡◌, ℕ}
use Rattle.volume.specs.Working.{image_at}
use Rattle.volume.proofs.RecoverLaws.{taken_to}
use Rattle.volume.proofs.store_reader.StoreReader.pages.Given as goal

-- the pages so far have their stored images
abbrev pub invariant-loop-number : goal.invariant-loop-number
invariant-loop-number g l = (q : ℕ) → image_at l.pages.images q ≡ taken_to (g.S.PageStore.meaning l.self.store.now).image l.number (image_at l.pages.images) q
