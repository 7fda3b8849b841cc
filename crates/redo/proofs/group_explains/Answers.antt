use Rattle.redo.proofs.InstallLaws.{group-explains}
use Rattle.redo.proofs.group_explains.Goals as goal

pub returns : goal.returns
returns c = group-explains
