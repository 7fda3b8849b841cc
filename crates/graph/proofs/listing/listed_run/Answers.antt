use Rattle.graph.proofs.ListLaws.{listed-run}
use Rattle.graph.proofs.listing.listed_run.Goals as goal

pub returns : goal.returns
returns c = listed-run
