use Rattle.lives.proofs.StepFacts.{trim-steps}
use Rattle.lives.proofs.playing.trim.Goals as goal

pub returns : goal.returns
returns g c = trim-steps _ _ _ c.trim.result c.trim.ensures.trimmed c.trim.ensures.number
