use Rattle.graph.proofs.ArrowLaws.{ArrowsBelow}
use Rattle.graph.proofs.arrows.arrows.Given as goal

abbrev pub invariant-loop-o : goal.invariant-loop-o
invariant-loop-o l = ArrowsBelow l.ops l.o-index l.rows
