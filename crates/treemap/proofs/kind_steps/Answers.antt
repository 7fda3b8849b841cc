use Rattle.treemap.proofs.BodyLaws.{kind_steps_lem}
use Rattle.treemap.proofs.kind_steps.Goals as goal

pub returns : goal.returns
returns g c = kind_steps_lem g.O.KeyOrder.ordering
