use Rattle.redo.proofs.ReadyLaws.{some_ready}
use Rattle.redo.proofs.some_ready.Goals as goal

pub returns : goal.returns
returns c = some_ready
