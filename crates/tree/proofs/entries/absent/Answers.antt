use Rattle.std.proofs.Common.{Bool, true, false, not, sym, ap, ◌∙◌, ◌≡◌, refl}
use Rattle.std.specs.Option.{is_none}
use Rattle.tree.specs.Nodes.{entries}
use Rattle.tree.specs.ListLaws.{absent_is}
use Rattle.tree.proofs.entries.absent.Goals as goal

twice : (b : Bool) → not (not b) ≡ b
twice true = refl
twice false = refl

pub returns : goal.returns
returns c = sym (twice c.is_none.result) ∙ ap not (sym c.is_none.ensures) ∙ ap is_none c.search.ensures ∙ absent_is c.args.key (entries c.args.c.now)
