use Rattle.redo.proofs.CountLaws.{one-group_fewer}
use Rattle.redo.proofs.one_group_fewer.Goals as goal

pub returns : goal.returns
returns c = one-group_fewer
