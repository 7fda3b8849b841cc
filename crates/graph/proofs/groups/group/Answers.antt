use Rattle.std.proofs.Common.{rules}
use Rattle.graph.specs.Ops.{dirty_ops}
use Rattle.graph.proofs.TableLaws.{group-all, group-clean}
use Rattle.graph.proofs.groups.group.Goals as goal

pub returns : goal.returns
returns c =
    let d = dirty_ops c.args.ops.now in
    let all = group-all d c.arrows-table.result c.closed-all.result c.arrows-table.ensures.made c.arrows-table.ensures.within
    (search rules) c.closed-all.ensures c.args.page c.group_in.result c.group_in.ensures in
    record { pages = all; clean = group-clean d c.args.page c.group_in.result c.group_in.type_inv all }
