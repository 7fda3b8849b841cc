use Rattle.std.proofs.Common.{arith}
use Rattle.graph.proofs.ArrowLaws.{arrows-none, arrows-more, arrows-all}
use Rattle.graph.proofs.arrows.arrows.Goals as goal

pub loop-o-init : goal.loop-o-init
loop-o-init c = arrows-none c.args.ops.now

pub loop-o-preserved : goal.loop-o-preserved
loop-o-preserved c =
    arrows-more c.args.ops.now c.loop-o.o-index c.loop-o.rows c.spread.new.rows c.targets-to.result c.targets-to.type_inv
    c.loop-o.invariant c.spread.array_long c.targets-to.ensures c.spread.ensures

pub returns-clause-made : goal.returns-clause-made
returns-clause-made c = arrows-all c.args.ops.now c.loop-o.o-index c.loop-o.rows (omega arith) c.loop-o.invariant
