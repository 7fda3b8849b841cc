use Rattle.std.proofs.Common.{Ok, refl, ap, ◌∙◌}
use Rattle.media.specs.declared.fate.Fate.TheVariants.{Lives}
use Rattle.lives.specs.Answers.{written_as}
use Rattle.lives.proofs.PlayFacts.{taken-call, idle-call}
use Rattle.lives.proofs.playing.play_up.Goals.{in-Run, in-Force, in-Flush, in-Trim}
use Rattle.lives.proofs.playing.play_up.Goals as goal

pub returns-in-Stop : goal.returns-in-Stop
returns-in-Stop g c = taken-call _ _ _ _ _ (Ok c.stop-volume.result.1) _ Lives c.in-Stop.is refl refl c.stop-volume.ensures

pub returns-in-Mount : goal.returns-in-Mount
returns-in-Mount g c = idle-call _ _ _ _ c.in-Mount.is refl

pub returns : goal.returns
returns g c = elim c.match-call.branch [
  | in-Run w ↦ rw w.volume-is (taken-call _ _ _ _ _ w.run-answer.result _ Lives w.in-Run.is refl (c.written.ensures ∙ ap written_as w.answer-is) w.run-answer.ensures)
  | in-Force w ↦ rw w.volume-is (taken-call _ _ _ _ _ w.force-answer.result _ w.force-answer.ensures.0 w.in-Force.is refl (c.written.ensures ∙ ap written_as w.answer-is) w.force-answer.ensures.1)
  | in-Flush w ↦ rw w.volume-is (taken-call _ _ _ _ _ w.flush-answer.result _ Lives w.in-Flush.is refl (c.written.ensures ∙ ap written_as w.answer-is) w.flush-answer.ensures)
  | in-Trim w ↦ rw w.volume-is (taken-call _ _ _ _ _ w.trim-answer.result _ Lives w.in-Trim.is refl (c.written.ensures ∙ ap written_as w.answer-is) w.trim-answer.ensures)
]
