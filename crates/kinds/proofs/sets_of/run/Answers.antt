use Rattle.std.proofs.Common.{◌+◌, refl, arith, ap₂, ◌∙◌, rules}
use Rattle.std.proofs.lemmas.Iterator.{YieldsList-from_range}
use Rattle.std.proofs.lemmas.Iterator.Consumers.{fold_from_yields_List}
use Rattle.kinds.specs.PageSets.{run}
use Rattle.kinds.specs.PageSetLaws.{with_page, run_is}
use Rattle.kinds.proofs.sets_of.run.Goals as goal

pub returns : goal.returns
returns c =
    let s = c.from-start.result in
    let n = c.from.result in
    fold_from_yields_List _ with_page 0 _ c.fold.ensures.ran (YieldsList-from_range s (s + n) n refl (omega arith)) (λ a x b q k. search rules)
    ∙ run_is s n ∙ ap₂ run c.from-start.ensures c.from.ensures
