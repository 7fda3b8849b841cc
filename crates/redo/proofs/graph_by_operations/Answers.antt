use Rattle.redo.proofs.GraphLaws.{graph_by_operations_lem}
use Rattle.redo.proofs.graph_by_operations.Goals as goal

pub returns : goal.returns
returns c = graph_by_operations_lem
