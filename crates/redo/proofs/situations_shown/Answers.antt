use Rattle.redo.proofs.SituationLaws.{situations_shown_lem}
use Rattle.redo.proofs.situations_shown.Goals as goal

pub returns : goal.returns
returns c = situations_shown_lem
