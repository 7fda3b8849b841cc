use Rattle.std.proofs.Common.{rules}
use Rattle.graph.proofs.GroupLaws.{leaders-all}
use Rattle.graph.proofs.groups.leaders.Goals as goal

pub returns : goal.returns
returns c =
    leaders-all c.args.reach.now c.pages_where.result c.pages_where.ensures.within
    (λ q l. let h = c.pages_where.ensures.tested q l in search rules)
