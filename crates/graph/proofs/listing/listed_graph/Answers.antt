use Rattle.graph.proofs.ListLaws.{listed-graph}
use Rattle.graph.proofs.listing.listed_graph.Goals as goal

pub returns : goal.returns
returns c = listed-graph
