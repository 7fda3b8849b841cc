use Rattle.graph.proofs.RowLaws.{Renewed}
use Rattle.graph.proofs.rows.renew.Given as goal

abbrev pub invariant-loop-a : goal.invariant-loop-a
invariant-loop-a g l = Renewed (λ a x y. goal.F-post g l.next a x y) l.initial.rows l.a l.rows
