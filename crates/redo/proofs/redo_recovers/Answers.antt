use Rattle.redo.proofs.RecoveryLaws.{redo-recovers}
use Rattle.redo.proofs.redo_recovers.Goals as goal

pub returns : goal.returns
returns c = redo-recovers
