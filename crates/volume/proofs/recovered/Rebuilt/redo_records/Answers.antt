use Rattle.std.proofs.Common.{◌≡◌, length, Ok, ap, ◌∙◌, arith}
use Rattle.std.proofs.lemmas.Result.{err_from_is_err_and}
use Rattle.faults.specs.Faults.{report}
use Rattle.tables.specs.DirtyOps.{dirty}
use Rattle.volume.specs.LogReading.{record_fault}
use Rattle.logblocks.specs.Blocks.{entry_of}
use Rattle.volume.specs.Mounting.{records_redone, record_redone, entry_at}
use Rattle.volume.specs.Recovering.{redone_in}
use Rattle.volume.proofs.RecoverLaws.{counted, records-at, redo-adds, redo-none, redo-more, redo-refused}
use Rattle.volume.proofs.recovered.Rebuilt.redo_records.Goals as goal

pub loop-n-init : goal.loop-n-init
loop-n-init g c =
    let none : length (dirty c.args.self.now.dirty) ≡ 0 = ap length c.requires.none in (
      redo-none g.K.Kind.meaning (g.L.Medium.model c.args.log.now.log.now) c.args.first (redone_in c.args.self.now) c.args.first (omega arith),
      omega arith,
      λ _. omega arith,
    )

pub redo_record-requires : goal.redo_record-requires
redo_record-requires g c =
    let k = g.K.Kind.meaning in
    let m = g.L.Medium.model c.args.log.now.log.now in
    let n = c.loop-n.n in
    record {
      faultless = ap (record_fault k n) c.block.ensures ∙ records-at k m c.args.first n c.args.next (omega arith) c.loop-n-test.true c.requires.faultless;
      room = omega (arith, c.loop-n.invariant.1, c.requires.few, c.loop-n-test.true);
    }

pub loop-n-preserved : goal.loop-n-preserved
loop-n-preserved g c =
    let k = g.K.Kind.meaning in
    let m = g.L.Medium.model c.args.log.now.log.now in
    let n = c.loop-n.n in
    let cur = redone_in c.loop-n.self in
    let new = redone_in c.redo_record.new.self in
    let did = c.in_ok-redo_record.ensures ∙ ap (λ b. record_redone k n (entry_of b) cur) c.block.ensures in (
      redo-more k m c.args.first (redone_in c.args.self.now) n (omega arith) cur (Ok new) c.loop-n.invariant.0 did,
      omega (arith, c.loop-n.invariant.1, redo-adds k n (entry_at m n) cur new did),
      λ e. omega (arith, c.loop-n-test.true),
    )

pub returns-in_err-redo_record : goal.returns-in_err-redo_record
returns-in_err-redo_record g c =
    let k = g.K.Kind.meaning in
    let m = g.L.Medium.model c.args.log.now.log.now in
    let n = c.loop-n.n in
    let cur = redone_in c.loop-n.self in
    let p = err_from_is_err_and c.from_residual.result c.from_residual.ensures.1 in
    rw (p.1, p.2)
    (redo-refused k m c.args.first (redone_in c.args.self.now) n c.args.next (omega arith) c.loop-n-test.true cur (report c.in_err-redo_record.field-0.0) c.loop-n.invariant.0
    (c.in_err-redo_record.ensures ∙ ap (λ b. record_redone k n (entry_of b) cur) c.block.ensures))

pub returns : goal.returns
returns g c =
    let end = counted c.args.first c.loop-n.n c.args.next (omega arith) c.loop-n-test.false c.loop-n.auto.n-end c.loop-n.invariant.2 in
    c.loop-n.invariant.0
    ∙ ap (λ i. records_redone g.K.Kind.meaning (g.L.Medium.model c.args.log.now.log.now) c.args.first i (redone_in c.args.self.now)) end
