use Rattle.std.proofs.Common.{arith}
use Rattle.std.proofs.lemmas.Bool.{both_ways}
use Rattle.sets.specs.Sets.{has}
use Rattle.sets.proofs.SetLaws.{has-none}
use Rattle.graph.proofs.rows.pages_where.Goals as goal

pub loop-p-init : goal.loop-p-init
loop-p-init g c = (λ q e. absurd (both_ways (has 0 q) (has-none q) e), λ q l. absurd (omega arith))
