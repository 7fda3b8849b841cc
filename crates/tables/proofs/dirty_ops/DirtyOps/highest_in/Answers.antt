use Rattle.std.proofs.Common.{ap, ◌∙◌}
use Rattle.tables.specs.DirtyOps.{dirty, highest_among}
use Rattle.tables.proofs.ListedLaws.{highest_at}
use Rattle.tables.proofs.dirty_ops.DirtyOps.highest_in.Goals as goal

pub returns-clause-best : goal.returns-clause-best
returns-clause-best c =
    highest_at c.args.set c.args.from (dirty c.args.self.now) c.highest.result
    (c.highest.ensures ∙ ap (highest_among c.args.set c.args.from) c.list.ensures)
