use Rattle.std.proofs.Common.{rules}
use Rattle.graph.proofs.GroupLaws.{group-pages}
use Rattle.graph.proofs.groups.group_in.Goals as goal

pub returns : goal.returns
returns c =
    group-pages c.args.reach.now c.args.page c.row-to.result c.single.result c.sources-from.result c.common.result
    (search rules) c.row-to.ensures c.single.ensures c.sources-from.ensures c.common.ensures
