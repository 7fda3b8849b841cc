use Rattle.std.proofs.Common.{ℕ, Bool, not, ◌||◌, refl, ◌∙◌, rules}
use Rattle.std.proofs.lemmas.Iterator.{YieldsList-from_range}
use Rattle.std.proofs.lemmas.Iterator.Search.{all_from_yields_List}
use Rattle.sets.specs.Sets.{has}
use Rattle.volume.specs.Working.{image_at, number_of}
use Rattle.volume.proofs.RecoverLaws.{every-listed}
use Rattle.volume.proofs.pages.WorkingPages.numbers_all.Goals as goal

pub returns : goal.returns
returns g c = λ t h.
    let test : ℕ → Bool = λ p. not (has c.args.set p) || t (number_of (image_at c.args.self.now.images p)) in
    let all = all_from_yields_List test _ _ c.all.result c.all.ensures.ran (YieldsList-from_range 0 64 64 refl refl) (λ x b q k. search rules) in
    all ∙ every-listed test 64
