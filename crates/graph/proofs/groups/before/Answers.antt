use Rattle.std.proofs.Common.{rules}
use Rattle.graph.specs.Ops.{dirty_ops}
use Rattle.graph.proofs.TableLaws.{before-all, before-clean}
use Rattle.graph.proofs.groups.before.Goals as goal

pub returns : goal.returns
returns c =
    let d = dirty_ops c.args.ops.now in
    let all = before-all d c.arrows-table.result c.closed-reach.result c.arrows-table.ensures.made c.arrows-table.ensures.within
    (search rules) c.closed-reach.ensures c.args.page c.group_in-group.result c.sources.result c.without-from.result c.groups_of.result
    c.group_in-group.ensures c.sources.ensures c.without-from.ensures c.groups_of.ensures in
    record { pages = all; clean = before-clean d c.args.page c.groups_of.result c.groups_of.type_inv all }
