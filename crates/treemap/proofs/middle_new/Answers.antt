use Rattle.std.proofs.Common.{◌^◌, ◌<◌, subst}
use Rattle.treemap.proofs.LeftLaws.{middle-new}
use Rattle.treemap.proofs.middle_new.Goals as goal

pub returns : goal.returns
returns g c = middle-new g.O.KeyOrder.ordering g.met.O.KeyOrder.ordered (subst (λ x. x < 2 ^ 32) c.least_key.ensures c.least_key.type_inv)
