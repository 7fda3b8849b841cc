use Rattle.std.proofs.Common.{◌≡◌, ◌<◌, length, drop, Some, None, sym, refl, subst, arith}
use Rattle.faults.specs.Faults.{report}
use Rattle.volume.specs.Forcing.{Logged}
use Rattle.volume.proofs.ForceLaws.{logged-on, logged-dies, logged-end}
use Rattle.volume.proofs.force.write_records.Goals as goal

pub returns-in-Err : goal.returns-in-Err
returns-in-Err g c =
    let bs = c.args.blocks.now in
    let l : c.loop-i.i < length bs = omega (arith, c.loop-i-test.true) in
    let m = g.L.Medium.model c.write_record.new.log in
    c.loop-i.invariant (Some (report c.in-Err.fault)) m (drop c.loop-i.i bs)
    (logged-dies bs c.loop-i.i _ (g.L.Medium.model c.loop-i.log) m (report c.in-Err.fault) l c.in-Err.ensures)

pub loop-i-preserved : goal.loop-i-preserved
loop-i-preserved g c o m left rest =
    let bs = c.args.blocks.now in
    let l : c.loop-i.i < length bs = omega (arith, c.loop-i-test.true) in
    c.loop-i.invariant o m left
    (logged-on bs c.loop-i.i _ (g.L.Medium.model c.loop-i.log) (g.L.Medium.model c.write_record.new.log) m o left l c.in_default.ensures rest)

pub returns : goal.returns
returns g c =
    let bs = c.args.blocks.now in
    let n = length bs in
    let same : c.loop-i.i ≡ n = omega (arith, c.loop-i-test.false) in
    let m = g.L.Medium.model c.loop-i.log in
    c.loop-i.invariant None m (drop n bs) (subst (λ i. Logged m (drop i bs) None m (drop n bs)) (sym same) (logged-end bs n m refl))
