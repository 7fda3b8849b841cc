use Rattle.lives.proofs.StepFacts.{stop-steps, same_ends}
use Rattle.lives.proofs.playing.stop.Goals as goal

pub returns : goal.returns
returns g c =
    stop-steps _ _ _ _ c.stop-volume.ensures.dropped (same_ends g.L.Medium.model g.S.PageStore.meaning g.S.PageStore.plan c.stop-volume.ensures.log c.stop-volume.ensures.store)
