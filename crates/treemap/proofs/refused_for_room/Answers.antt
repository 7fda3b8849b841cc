use Rattle.std.proofs.Common.{◌^◌, ◌<◌, subst}
use Rattle.treemap.proofs.LeftLaws.{refused-for_room}
use Rattle.treemap.proofs.refused_for_room.Goals as goal

pub returns : goal.returns
returns g c = refused-for_room g.O.KeyOrder.ordering g.met.O.KeyOrder.ordered (subst (λ x. x < 2 ^ 32) c.least_key.ensures c.least_key.type_inv)
