use Rattle.std.proofs.Common.{ap, ◌∙◌, arith}
use Rattle.std.proofs.lemmas.Result.{err_from_is_err_and}
use Rattle.faults.specs.Faults.{report}
use Rattle.volume.specs.Mounting.{records_fault}
use Rattle.volume.proofs.RecoverLaws.{counted, records-none, records-on, records-cut}
use Rattle.volume.proofs.log_reader.LogReader.check_records.Goals as goal

pub loop-n-init : goal.loop-n-init
loop-n-init g c = (records-none g.K.Kind.meaning (g.L.Medium.model c.args.self.now.log.now) c.args.first c.args.first (omega arith), λ _. omega arith)

pub loop-n-preserved : goal.loop-n-preserved
loop-n-preserved g c = (
  records-on g.K.Kind.meaning (g.L.Medium.model c.args.self.now.log.now) c.args.first c.loop-n.n (omega arith) c.loop-n.invariant.0 c.in_ok-check.ensures,
  λ e. omega (arith, c.loop-n-test.true),
)

pub returns-in_err-check : goal.returns-in_err-check
returns-in_err-check g c =
    let p = err_from_is_err_and c.from_residual.result c.from_residual.ensures.1 in
    rw (p.1, p.2)
    (records-cut g.K.Kind.meaning (g.L.Medium.model c.args.self.now.log.now) c.args.first c.loop-n.n c.args.next (omega arith) c.loop-n-test.true
    (report c.in_err-check.field-0.0) c.loop-n.invariant.0 c.in_err-check.ensures)

pub returns : goal.returns
returns g c =
    let end = counted c.args.first c.loop-n.n c.args.next (omega arith) c.loop-n-test.false c.loop-n.auto.n-end c.loop-n.invariant.1 in
    c.loop-n.invariant.0 ∙ ap (records_fault g.K.Kind.meaning (g.L.Medium.model c.args.self.now.log.now) c.args.first) end
