use Rattle.std.proofs.Common.{ap, ap₂, ◌∙◌, arith, rules, tests}
use Rattle.sets.specs.Sets.{has}
use Rattle.tree.specs.EntryLaws.{seen_none}
use Rattle.tree.specs.Nodes.{count, fresh}
use Rattle.tree.specs.Views.{left}
use Rattle.tree.proofs.FreshLaws.{fresh_folded, took}
use Rattle.tree.proofs.entries.fresh.Goals as goal

pub returns : goal.returns
returns c =
    let z = c.try_fold.ensures.ran in
    c.is_some.ensures ∙ fresh_folded _ c.byte-n.result _ _ (λ s x o q k. (search rules, took c.byte-n.result s x.value o (omega arith) (search (rules, tests)))) c.try_fold.result z.0 z.1 c.try_fold.new.self c.of.result z.4.0 0 (z.2, z.3) z.4.1 z.5 z.4.2 z.6
    ∙ ap (λ n. fresh n (has 0) (left c.of.result)) c.byte-n.ensures ∙ ap₂ (fresh (count c.args.c.now)) seen_none c.of.ensures
