use Rattle.std.proofs.Common.{◌≡◌, true, rules}
use Rattle.sets.specs.Sets.{has}
use Rattle.graph.specs.Ops.{nothing}
use Rattle.graph.specs.Rows.{ReadsFirst}
use Rattle.graph.proofs.RowLaws.{gathered-items}
use Rattle.graph.proofs.arrows.later.Goals as goal

pub returns : goal.returns
returns c =
    gathered-items _ _ nothing (λ b p. ReadsFirst c.args.o p × (has p.writes b ≡ true)) (λ s x r f' k. search rules)
    c.iter.result c.args.ops.now c.fold.result c.iter.ensures.rest c.fold.ensures.ran
