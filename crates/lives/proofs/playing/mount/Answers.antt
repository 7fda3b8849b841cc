use Rattle.lives.proofs.StepFacts.{mount-steps-by}
use Rattle.lives.proofs.playing.mount.Goals as goal

pub returns : goal.returns
returns g c = mount-steps-by _ _ _ c.fault.result c.mount-volume.result.1 _ c.mount-volume.ensures.up c.mount-volume.ensures.count c.fault.ensures c.map_or-answer.ensures
