use Rattle.std.proofs.Common.{rules}
use Rattle.graph.proofs.arrows.spread.Goals as goal

pub returns : goal.returns
returns c = λ a b l. let h = c.renew.ensures a l in search rules
