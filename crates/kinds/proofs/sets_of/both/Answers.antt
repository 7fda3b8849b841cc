use Rattle.std.proofs.Common.{ap₂, ◌∙◌}
use Rattle.kinds.specs.PageSets.{both}
use Rattle.kinds.specs.PageSetLaws.{both_is}
use Rattle.kinds.proofs.sets_of.both.Goals as goal

pub returns : goal.returns
returns c =
    both_is c.union.result c.single.result c.single-2.result c.from.result c.from-2.result c.union.type_inv c.single.ensures c.single-2.ensures c.union.ensures
    ∙ ap₂ both c.from.ensures c.from-2.ensures
