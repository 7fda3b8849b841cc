use Rattle.treemap.proofs.FormedLaws.{plans_formed_lem}
use Rattle.treemap.proofs.plans_formed.Goals as goal

pub returns : goal.returns
returns g c = plans_formed_lem g.O.KeyOrder.ordering g.met.O.KeyOrder.ordered
