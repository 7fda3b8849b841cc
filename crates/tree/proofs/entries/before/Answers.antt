use Rattle.std.proofs.Common.{◌≡◌, inl, length, ap, ◌∙◌, arith, rules, tests}
use Rattle.std.proofs.lemmas.Iterator.Search.{YieldsList-from_take_while}
use Rattle.std.proofs.lemmas.Iterator.Consumers.{YieldsList-from_first, count_from_yields_List}
use Rattle.std.proofs.lemmas.List.Folds.{length-prefix_len}
use Rattle.tree.specs.Nodes.{Entry, count, entries}
use Rattle.tree.specs.NodeLaws.{length-entries_of}
use Rattle.tree.specs.ListLaws.{before_is}
use Rattle.tree.specs.Views.{pair, left}
use Rattle.tree.proofs.entries.before.Goals as goal

pub count-requires-clause-fits : goal.count-requires-clause-fits
unfolding entries
count-requires-clause-fits g c =
    let e : left c.take_while.result.iter ≡ entries c.args.c.now = ap left c.take_while.ensures.source ∙ c.of.ensures in
    let n = length-entries_of (count c.args.c.now) in
    let b = (c.type_inv.c 1).fits in
    inl (omega (arith, ap length e))

pub returns : goal.returns
returns g c =
    let es = entries c.args.c.now in
    let test = λ (e : Entry). g.O.KeyOrder.ordering.less e.0 c.args.key in
    count_from_yields_List _ _ c.count.ensures.ran (YieldsList-from_take_while _ test (YieldsList-from_first pair left es (ap left c.take_while.ensures.source ∙ c.of.ensures)) c.take_while.ensures.closure c.take_while.ensures.done (λ x b q k. search (rules, tests)))
    ∙ length-prefix_len test es ∙ before_is g.O.KeyOrder.ordering c.args.key es
