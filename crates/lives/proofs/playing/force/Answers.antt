use Rattle.lives.proofs.StepFacts.{force-steps}
use Rattle.lives.proofs.playing.force.Goals as goal

pub returns : goal.returns
returns g c = force-steps _ _ _ c.force.result c.force.ensures.forced c.force.ensures.number
