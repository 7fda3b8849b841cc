use Rattle.graph.proofs.ListLaws.{listed-install}
use Rattle.graph.proofs.listing.listed_install.Goals as goal

pub returns : goal.returns
returns c = listed-install
