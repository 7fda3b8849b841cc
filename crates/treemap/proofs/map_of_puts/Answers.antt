use Rattle.std.proofs.Common.{◌^◌, ◌<◌, subst}
use Rattle.treemap.proofs.LeftLaws.{map-of_puts}
use Rattle.treemap.proofs.map_of_puts.Goals as goal

pub returns : goal.returns
returns g c = map-of_puts g.O.KeyOrder.ordering g.met.O.KeyOrder.ordered (subst (λ x. x < 2 ^ 32) c.least_key.ensures c.least_key.type_inv)
