use Rattle.treemap.proofs.FormedLaws.{last-counts}
use Rattle.treemap.proofs.last_counts.Goals as goal

pub returns : goal.returns
returns g c = last-counts g.O.KeyOrder.ordering
