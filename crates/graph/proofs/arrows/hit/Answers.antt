use Rattle.std.proofs.Common.{◌≡◌, true}
use Rattle.std.proofs.lemmas.Bool.{both_ways}
use Rattle.sets.specs.Sets.{has}
use Rattle.graph.specs.Rows.{ReadsFirst}
use Rattle.graph.proofs.RowLaws.{pages-none}
use Rattle.graph.proofs.arrows.hit.Goals as goal

pub returns-else-reads_before : goal.returns-else-reads_before
returns-else-reads_before c =
    pages-none (λ b. ReadsFirst c.args.o c.args.p × (has c.args.p.writes b ≡ true))
    (λ q x. both_ways c.reads_before.result c.if-reads_before.false (c.reads_before.ensures.1 x.0))
