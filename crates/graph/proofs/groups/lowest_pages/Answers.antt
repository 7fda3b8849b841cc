use Rattle.std.proofs.Common.{rules}
use Rattle.graph.specs.Ops.{dirty_ops}
use Rattle.graph.proofs.TableLaws.{lowest-all}
use Rattle.graph.proofs.groups.lowest_pages.Goals as goal

pub returns : goal.returns
returns c =
    lowest-all (dirty_ops c.args.ops.now) c.arrows-table.result c.closed-reach.result c.arrows-table.ensures.made c.arrows-table.ensures.within
    (search rules) c.closed-reach.ensures c.leaders.result c.leaders.ensures
