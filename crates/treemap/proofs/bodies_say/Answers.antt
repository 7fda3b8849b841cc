use Rattle.treemap.proofs.BodyLaws.{bodies-say}
use Rattle.treemap.proofs.bodies_say.Goals as goal

pub returns : goal.returns
returns c = bodies-say
