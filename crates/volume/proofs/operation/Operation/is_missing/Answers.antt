use Rattle.std.proofs.Common.{ltb, rules}
use Rattle.volume.proofs.operation.Operation.is_missing.Goals as goal

pub returns : goal.returns
returns g c = c.numbers_all.ensures (λ n. ltb n c.args.self.now.record.number) (λ n r k. search rules)
