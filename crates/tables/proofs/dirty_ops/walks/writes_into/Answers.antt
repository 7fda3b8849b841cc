use Rattle.std.proofs.Common.{arith}
use Rattle.tables.proofs.ListedLaws.{writes-by_meet}
use Rattle.tables.proofs.dirty_ops.walks.writes_into.Goals as goal

pub returns : goal.returns
returns c = writes-by_meet c.meet.result c.args.o c.args.set (omega arith) c.meet.ensures
