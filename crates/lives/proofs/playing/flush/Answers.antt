use Rattle.lives.proofs.StepFacts.{flush-steps}
use Rattle.lives.proofs.playing.flush.Goals as goal

pub returns : goal.returns
returns g c = let x = c.flush.ensures.flushed in flush-steps _ _ _ _ x.0 c.flush.result x.1.0 x.1.1
