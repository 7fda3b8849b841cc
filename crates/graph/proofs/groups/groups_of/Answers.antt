use Rattle.std.proofs.Common.{refl, rules}
use Rattle.graph.specs.Rows.{InGroupOf}
use Rattle.graph.proofs.RowLaws.{gathered-pages}
use Rattle.graph.proofs.groups.groups_of.Goals as goal

pub returns : goal.returns
returns c = gathered-pages _ _ (InGroupOf c.args.reach.now c.args.set) (λ s x r f' k. search rules) _ c.fold.result refl c.fold.ensures.ran
