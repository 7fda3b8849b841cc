use Rattle.treemap.proofs.LeftLaws.{left_cut}
use Rattle.treemap.proofs.cut_anywhere.Goals as goal

pub returns : goal.returns
returns g c = left_cut g.O.KeyOrder.ordering
