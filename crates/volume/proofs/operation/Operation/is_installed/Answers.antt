use Rattle.std.proofs.Common.{leb, rules}
use Rattle.volume.proofs.operation.Operation.is_installed.Goals as goal

pub returns : goal.returns
returns g c = c.numbers_all.ensures (leb c.args.self.now.record.number) (λ n r k. search rules)
