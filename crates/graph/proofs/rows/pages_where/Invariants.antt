use Rattle.std.proofs.Common.{◌≡◌, ℕ, ◌<◌, true}
use Rattle.sets.specs.Sets.{has}
use Rattle.graph.proofs.rows.pages_where.Given as goal

abbrev pub invariant-loop-p : goal.invariant-loop-p
invariant-loop-p g l =
    ((q : ℕ) → has l.pages q ≡ true → q < l.p) × ((q : ℕ) → q < l.p → goal.F-post g l.test q (has l.pages q))
