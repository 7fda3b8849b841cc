use Rattle.graph.proofs.CloseLaws.{ClosedBelow}
use Rattle.graph.proofs.closure.closed.Given as goal

abbrev pub invariant-loop-k : goal.invariant-loop-k
invariant-loop-k l = ClosedBelow l.initial.rows l.k l.rows
