use Rattle.std.proofs.Common.{arith, rules}
use Rattle.graph.proofs.CloseLaws.{close_none, close_more}
use Rattle.graph.proofs.closure.closed.Goals as goal

pub loop-k-init : goal.loop-k-init
loop-k-init c = close_none c.args.arrows (search rules)

pub loop-k-preserved : goal.loop-k-preserved
loop-k-preserved c =
    close_more c.args.arrows c.loop-k.k c.loop-k.rows c.let_in.new.rows c.loop-k.invariant (omega arith) c.let_in.array_long c.let_in.ensures
