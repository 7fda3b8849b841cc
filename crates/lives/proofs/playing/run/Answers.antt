use Rattle.lives.proofs.StepFacts.{run-steps}
use Rattle.lives.proofs.playing.run.Goals as goal

pub returns : goal.returns
returns g c = run-steps _ _ _ _ c.run.result c.run.ensures.answer c.run.ensures.number c.run.ensures.after
