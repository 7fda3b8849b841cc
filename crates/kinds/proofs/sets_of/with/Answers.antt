use Rattle.kinds.specs.PageSetLaws.{with_is}
use Rattle.kinds.proofs.sets_of.with.Goals as goal

pub returns : goal.returns
returns c = with_is c.union.result c.args.set c.single.result c.args.page c.union.type_inv c.ranges.set.fits c.single.ensures c.union.ensures
