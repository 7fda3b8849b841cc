use Rattle.tree.proofs.MapLaws.{puts}
use Rattle.tree.proofs.laws.puts_are_updates.Goals as goal

pub returns : goal.returns
returns g c = puts g.O.KeyOrder.ordering g.met.O.KeyOrder.ordered
