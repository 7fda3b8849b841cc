use Rattle.redo.proofs.KeepLaws.{loss_keeps_lem}
use Rattle.redo.proofs.loss_keeps.Goals as goal

pub returns : goal.returns
returns c = loss_keeps_lem
