use Rattle.std.proofs.Common.{None, rules, tests}
use Rattle.std.proofs.lemmas.Iterator.{YieldsList-from_slice, YieldsList-from_map}
use Rattle.std.proofs.lemmas.Iterator.Consumers.{YieldsList-at, YieldsList-from_filter, fold_from_yields_List}
use Rattle.graph.specs.declared.op.Op.{Op}
use Rattle.tables.specs.DirtyOps.{counts, higher}
use Rattle.tables.proofs.dirty_ops.walks.highest.Goals as goal

pub returns : goal.returns
returns c =
    fold_from_yields_List _ higher None c.fold.result c.fold.ensures.ran
    (YieldsList-from_map _ (λ (o : Op). o.number)
    (YieldsList-at c.map.ensures.source (YieldsList-from_filter _ (counts c.args.set c.args.from) (YieldsList-at c.filter.ensures.source (YieldsList-from_slice c.args.ops.now cc)) c.filter.ensures.closure (λ x b q k. search (rules, tests))))
    c.map.ensures.closure (λ x r q k. search rules))
    (λ best n r q k. search rules)
