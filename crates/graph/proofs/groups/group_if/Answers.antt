use Rattle.std.proofs.lemmas.Bool.{both_ways}
use Rattle.sets.specs.Sets.{has}
use Rattle.std.proofs.Common.{sym, ◌∙◌}
use Rattle.graph.specs.Rows.{InGroupOf}
use Rattle.graph.proofs.RowLaws.{pages-none}
use Rattle.graph.proofs.groups.group_if.Goals as goal

pub returns-else-contains : goal.returns-else-contains
returns-else-contains c =
    pages-none (λ q. InGroupOf c.args.reach.now c.args.set q c.args.p)
    (λ q x. both_ways (has c.args.set c.args.p) (sym c.contains.ensures ∙ c.if-contains.false) x.0)
