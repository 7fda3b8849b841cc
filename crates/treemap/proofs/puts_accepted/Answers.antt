use Rattle.std.proofs.Common.{◌^◌, ◌<◌, subst}
use Rattle.treemap.proofs.AnyPagesLaws.{puts-accepted}
use Rattle.treemap.proofs.puts_accepted.Goals as goal

pub returns : goal.returns
returns g c = puts-accepted g.O.KeyOrder.ordering g.met.O.KeyOrder.ordered (subst (λ x. x < 2 ^ 32) c.least_key.ensures c.least_key.type_inv)
