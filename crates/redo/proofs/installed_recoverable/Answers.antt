use Rattle.redo.proofs.RecoveryLaws.{installed-recoverable}
use Rattle.redo.proofs.installed_recoverable.Goals as goal

pub returns : goal.returns
returns c = installed-recoverable
