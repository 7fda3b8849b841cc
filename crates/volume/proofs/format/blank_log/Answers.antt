use Rattle.std.proofs.Common.{◌+◌, ◌≤◌, Some, None, arith}
use Rattle.faults.specs.Faults.{report}
use Rattle.std.proofs.lemmas.Result.{err_from_is_err_and}
use Rattle.volume.proofs.FormatLaws.{blanks-none, blanks-on, blanks-cut}
use Rattle.volume.proofs.format.blank_log.Goals as goal

pub loop-block-init : goal.loop-block-init
loop-block-init g c = blanks-none (g.L.Medium.model c.args.log.now)

pub loop-block-preserved : goal.loop-block-preserved
loop-block-preserved g c =
    blanks-on c.loop-block.block (g.L.Medium.model c.args.log.now) (g.L.Medium.model c.loop-block.log) (g.L.Medium.model c.write.new.self) None
    c.loop-block.invariant c.in_ok-write.ensures.wrote

pub returns-in_err-write : goal.returns-in_err-write
returns-in_err-write g c =
    let m = g.L.Medium.model c.args.log.now in
    let m' = g.L.Medium.model c.write.new.self in
    let l : c.loop-block.block + 1 ≤ 129 = omega arith in
    let r = report c.in_err-write.field-0.0 in
    let p = err_from_is_err_and c.from_residual.result c.from_residual.ensures.1 in
    rw (p.1, p.2) (blanks-cut (c.loop-block.block + 1) m m' r l (blanks-on c.loop-block.block m (g.L.Medium.model c.loop-block.log) m' (Some r) c.loop-block.invariant c.in_err-write.ensures.wrote))
