use Rattle.std.proofs.Common.{ap, arith}
use Rattle.faults.specs.Faults.{report}
use Rattle.tables.specs.DirtyOps.{dirty}
use Rattle.volume.specs.Working.{image_at}
use Rattle.volume.specs.Recovering.{ends_of}
use Rattle.volume.proofs.RecoverLaws.{end_within, numbers-refused, redo_refused}
use mathlib.Core.Path.{fun_ext}
use Rattle.std.proofs.lemmas.Result.{err_from_is_err_and}
use Rattle.volume.proofs.recover.recover_from.Goals as goal

pub redo_records-requires : goal.redo_records-requires
redo_records-requires g c =
    let m = g.L.Medium.model c.args.log.now.log.now in
    record {
      few = omega (arith, c.end-next.ensures, end_within m c.args.first 128);
      faultless = c.in_ok-check_records.ensures;
      none = c.none.ensures;
    }

pub returns-in_err-check_numbers : goal.returns-in_err-check_numbers
returns-in_err-check_numbers g c =
    let e = ends_of (g.L.Medium.model c.args.log.now.log.now) (g.S.PageStore.meaning c.args.store.now.store.now) (g.S.PageStore.plan c.args.store.now.store.now) in
    let p = err_from_is_err_and c.from_residual-in_err-check_numbers.result c.from_residual-in_err-check_numbers.ensures.1 in
    rw (p.1, p.2)
    (numbers-refused g.K.Kind.meaning e c.args.first c.end-next.result (image_at c.pages-pages.result.images) c.end-next.ensures
    (fun_ext c.pages-pages.ensures) c.in_ok-check_records.ensures (report c.in_err-check_numbers.field-0.0) c.in_err-check_numbers.ensures)

pub returns-in_err-redo_records : goal.returns-in_err-redo_records
returns-in_err-redo_records g c =
    let e = ends_of (g.L.Medium.model c.args.log.now.log.now) (g.S.PageStore.meaning c.args.store.now.store.now) (g.S.PageStore.plan c.args.store.now.store.now) in
    let held = image_at c.pages-pages.result.images in
    let p = err_from_is_err_and c.from_residual-in_err-redo_records.result c.from_residual-in_err-redo_records.ensures.1 in
    rw (p.1, p.2)
    (redo_refused g.K.Kind.meaning e c.args.first c.end-next.result held c.end-next.ensures
    (fun_ext c.pages-pages.ensures) c.in_ok-check_records.ensures (report c.in_err-redo_records.field-0.0) (record { images = held; ops = dirty c.none.result })
    c.in_ok-check_numbers.ensures (ap (λ ops. record { images = held; ops = ops }) c.none.ensures) c.in_err-redo_records.ensures)
