use Rattle.redo.proofs.GraphLaws.{groups-part}
use Rattle.redo.proofs.groups_part.Goals as goal

pub returns : goal.returns
returns c = groups-part
