use Rattle.std.proofs.Common.{cond, ap, ◌∙◌}
use Rattle.std.proofs.lemmas.Bool.{le-ltb}
use Rattle.tree.specs.NodeLaws.{hit-past, hit-here}
use Rattle.tree.proofs.steps.hit.Goals as goal

pub returns-then-i-count : goal.returns-then-i-count
returns-then-i-count c = hit-here c.args.c.now c.count.result c.args.i c.args.key c.key_at.result c.count.ensures c.if-i-count.true c.key_at.ensures

pub returns-else-i-count : goal.returns-else-i-count
returns-else-i-count c = ap (λ b. cond b 1 0) (le-ltb c.args.i c.count.result c.if-i-count.false) ∙ hit-past c.args.c.now c.count.result c.args.i c.args.key c.count.ensures c.if-i-count.false
