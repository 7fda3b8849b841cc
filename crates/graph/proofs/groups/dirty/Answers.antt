use Rattle.std.proofs.Common.{◌≡◌, true, rules}
use Rattle.sets.specs.Sets.{has}
use Rattle.graph.specs.Ops.{nothing}
use Rattle.graph.proofs.RowLaws.{gathered-items}
use Rattle.graph.proofs.GroupLaws.{written-dirty}
use Rattle.graph.proofs.groups.dirty.Goals as goal

pub returns : goal.returns
returns c =
    written-dirty c.args.ops.now c.fold.result
    (gathered-items _ _ nothing (λ b o. has o.writes b ≡ true) (λ s x r f' k. ((x.now.writes, λ q. (λ e. e, λ e. e), search rules), search rules))
    c.iter.result c.args.ops.now c.fold.result c.iter.ensures.rest c.fold.ensures.ran)
