use Rattle.std.proofs.Common.{refl}
use Rattle.media.specs.declared.fate.Fate.TheVariants.{Lives}
use Rattle.lives.proofs.PlayFacts.{taken-call, idle-call, down-idle}
use Rattle.lives.proofs.playing.play_down.Goals as goal

pub returns-in-Mount : goal.returns-in-Mount
returns-in-Mount g c = taken-call _ _ _ _ _ c.mount-volume.result.1 _ Lives c.in-Mount.is refl c.written.ensures c.mount-volume.ensures

pub returns-in_default : goal.returns-in_default
returns-in_default g c = idle-call _ _ _ _ refl (down-idle _ c.in_default.not-Mount)
