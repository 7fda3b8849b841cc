use Rattle.redo.proofs.KeepLaws.{trim-keeps}
use Rattle.redo.proofs.trim_keeps.Goals as goal

pub returns : goal.returns
returns c = trim-keeps
