use Rattle.std.proofs.Common.{◌≤◌, length, sym, ap, ◌∙◌, arith}
use Rattle.tables.specs.DirtyOps.{dirty}
use Rattle.volume.specs.Recovering.{up_with}
use Rattle.volume.proofs.MountedLaws.{halted-blank}
use Rattle.volume.proofs.mount.settled.Goals as goal

pub returns-in-Err : goal.returns-in-Err
returns-in-Err c = λ e.
    let few : length (dirty c.none.result) ≤ 128 = omega (arith, ap length c.none.ensures) in
    halted-blank e c.blank.result c.none.result few c.in-Err.fault c.blank.ensures c.none.ensures ∙ sym (ap (up_with e) c.in-Err.is)
