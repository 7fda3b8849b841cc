use Rattle.std.proofs.Common.{◌*◌, ◌≤◌, arith, rules}
use Rattle.volume.proofs.PerformLaws.{writes_few}
use Rattle.volume.proofs.operation.Operation.perform.Goals as goal

pub slice_bounds-new-end : goal.slice_bounds-new-end
slice_bounds-new-end g c =
    let o = c.args.self.now in
    let l : c.size.result * 224 ≤ 896 = omega (arith, c.size.ensures, writes_few g.K.Kind.meaning g.met.K.Kind.lawful o.record.body.now o.record.reads o.record.writes o.scoped) in
    search rules
