use Rattle.redo.proofs.InstallLaws.{group-installs}
use Rattle.redo.proofs.group_installs.Goals as goal

pub returns : goal.returns
returns c = group-installs
