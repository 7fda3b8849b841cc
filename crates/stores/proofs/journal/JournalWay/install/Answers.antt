use Rattle.std.proofs.Common.{Some}
use Rattle.std.proofs.lemmas.Result.{err_from_is_err_and}
use Rattle.faults.specs.Faults.{report, refusal}
use Rattle.media.proofs.PlanLaws.{ran_then, ran_refused}
use Rattle.stores.specs.Plans.{journal_writes, journal_plan}
use Rattle.stores.proofs.PlanLaws.{journal_none}
use Rattle.stores.proofs.StoreLaws.{idle, journal_done}
use Rattle.stores.proofs.journal.JournalWay.install.Goals as goal

pub returns-then-set-eq0 : goal.returns-then-set-eq0
returns-then-set-eq0 g c =
    let m = g.M.Medium.model c.args.medium.now in
    let z = c.if-set-eq0.true in
    let r = idle journal_writes journal_plan m c.args.set c.args.images.now c.told-images z (journal_none m.blocks c.args.set c.args.images.now z) in
    record { ran = r.0; installed = r.1 }

pub returns-in_err-settle : goal.returns-in_err-settle
returns-in_err-settle g c =
    let p = err_from_is_err_and c.from_residual.result c.from_residual.ensures.1 in
    let r = journal_done (g.M.Medium.model c.args.medium.now) c.args.set c.args.images.now c.told-images (g.M.Medium.model c.settle.new.medium) c.if-set-eq0.false c.ranges.set.fits (Some (report c.in_err-settle.field-0.0)) c.count.ensures.whole
    (ran_refused _ c.in_err-settle.ensures.ran) in
    rw (p.1, p.2) (record { ran = r.0; installed = r.1 })

pub returns-in_err-write_images : goal.returns-in_err-write_images
returns-in_err-write_images g c =
    let p = err_from_is_err_and c.from_residual-in_err-write_images.result c.from_residual-in_err-write_images.ensures.1 in
    let r = journal_done (g.M.Medium.model c.args.medium.now) c.args.set c.args.images.now c.told-images (g.M.Medium.model c.write_images.new.medium) c.if-set-eq0.false c.ranges.set.fits (Some (report c.in_err-write_images.field-0.0)) c.count.ensures.whole
    (ran_then c.in_ok-settle.ensures.ran (ran_refused _ c.in_err-write_images.ensures.ran)) in
    rw (p.1, p.2) (record { ran = r.0; installed = r.1 })

pub returns-in_err-write_set : goal.returns-in_err-write_set
returns-in_err-write_set g c =
    let p = err_from_is_err_and c.from_residual-in_err-write_set.result c.from_residual-in_err-write_set.ensures.1 in
    let r = journal_done (g.M.Medium.model c.args.medium.now) c.args.set c.args.images.now c.told-images (g.M.Medium.model c.write_set.new.medium) c.if-set-eq0.false c.ranges.set.fits (Some (report c.in_err-write_set.field-0.0)) c.count.ensures.whole
    (ran_then c.in_ok-settle.ensures.ran (ran_then c.in_ok-write_images.ensures.ran (ran_refused _ c.in_err-write_set.ensures.ran))) in
    rw (p.1, p.2) (record { ran = r.0; installed = r.1 })

pub returns-in_err-write_images-2 : goal.returns-in_err-write_images-2
returns-in_err-write_images-2 g c =
    let p = err_from_is_err_and c.from_residual-in_err-write_images-2.result c.from_residual-in_err-write_images-2.ensures.1 in
    let r = journal_done (g.M.Medium.model c.args.medium.now) c.args.set c.args.images.now c.told-images (g.M.Medium.model c.write_images-2.new.medium) c.if-set-eq0.false c.ranges.set.fits (Some (report c.in_err-write_images-2.field-0.0)) c.count.ensures.whole
    (ran_then c.in_ok-settle.ensures.ran (ran_then c.in_ok-write_images.ensures.ran (ran_then c.in_ok-write_set.ensures.ran (ran_refused _ c.in_err-write_images-2.ensures.ran)))) in
    rw (p.1, p.2) (record { ran = r.0; installed = r.1 })

pub returns : goal.returns
returns g c =
    let r = journal_done (g.M.Medium.model c.args.medium.now) c.args.set c.args.images.now c.told-images (g.M.Medium.model c.write_set-2.new.medium) c.if-set-eq0.false c.ranges.set.fits (refusal c.write_set-2.result) c.count.ensures.whole
    (ran_then c.in_ok-settle.ensures.ran (ran_then c.in_ok-write_images.ensures.ran (ran_then c.in_ok-write_set.ensures.ran (ran_then c.in_ok-write_images-2.ensures.ran c.write_set-2.ensures.ran)))) in
    record { ran = r.0; installed = r.1 }
