use Rattle.std.proofs.Common.{ap, ◌∙◌, rules}
use Rattle.tree.specs.Nodes.{rising}
use Rattle.tree.proofs.SortedLaws.{rising-checked}
use Rattle.tree.proofs.entries.rising.Goals as goal

pub returns : goal.returns
returns g c = rising-checked _ g.O.KeyOrder.ordering _ (λ x y b f' k. search rules) c.is_sorted_by.result c.of.result c.is_sorted_by.ensures.ran ∙ ap (rising g.O.KeyOrder.ordering) c.of.ensures
