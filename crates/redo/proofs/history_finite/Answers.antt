use Rattle.redo.proofs.InstallLaws.{history-finite}
use Rattle.redo.proofs.history_finite.Goals as goal

pub returns : goal.returns
returns c = history-finite
