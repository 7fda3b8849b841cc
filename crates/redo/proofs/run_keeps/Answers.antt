use Rattle.redo.proofs.KeepLaws.{run-keeps}
use Rattle.redo.proofs.run_keeps.Goals as goal

pub returns : goal.returns
returns c = run-keeps
