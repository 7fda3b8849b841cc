use Rattle.std.proofs.Common.{ap, ◌∙◌}
use Rattle.kinds.specs.PageSets.{only}
use Rattle.kinds.specs.PageSetLaws.{only-is}
use Rattle.kinds.proofs.sets_of.only.Goals as goal

pub returns : goal.returns
returns c = only-is c.single.result c.from.result c.single.type_inv c.single.ensures ∙ ap only c.from.ensures
