use Rattle.redo.proofs.GraphLaws.{no_circle}
use Rattle.redo.proofs.no_circle.Goals as goal

pub returns : goal.returns
returns c = no_circle
