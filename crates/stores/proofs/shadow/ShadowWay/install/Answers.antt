use Rattle.std.proofs.Common.{Some}
use Rattle.std.proofs.lemmas.Result.{err_from_is_err_and}
use Rattle.faults.specs.Faults.{report, refusal}
use Rattle.media.proofs.PlanLaws.{ran_then, ran_refused}
use Rattle.stores.specs.Plans.{shadow_writes, shadow_plan}
use Rattle.stores.proofs.PlanLaws.{shadow_none}
use Rattle.stores.proofs.StoreLaws.{idle, shadow_done}
use Rattle.stores.proofs.shadow.ShadowWay.install.Goals as goal

pub returns-then-set-eq0 : goal.returns-then-set-eq0
returns-then-set-eq0 g c =
    let m = g.M.Medium.model c.args.medium.now in
    let z = c.if-set-eq0.true in
    let r = idle shadow_writes shadow_plan m c.args.set c.args.images.now c.told-images z (shadow_none m.blocks c.args.set c.args.images.now z) in
    record { ran = r.0; installed = r.1 }

pub returns-in_err-write_images : goal.returns-in_err-write_images
returns-in_err-write_images g c =
    let x = report c.in_err-write_images.field-0.0 in
    let u = c.load_set-upper in
    let p = err_from_is_err_and c.from_residual.result c.from_residual.ensures.1 in
    let r = shadow_done (g.M.Medium.model c.args.medium.now) c.args.set c.args.images.now c.told-images (g.M.Medium.model c.write_images.new.medium) c.if-set-eq0.false c.ranges.set.fits (Some x) u.result u.type_inv u.ensures
    (ran_refused _ c.in_err-write_images.ensures.ran) in
    rw (p.1, p.2) (record { ran = r.0; installed = r.1 })

pub returns : goal.returns
returns g c =
    let u = c.load_set-upper in
    let r = shadow_done (g.M.Medium.model c.args.medium.now) c.args.set c.args.images.now c.told-images (g.M.Medium.model c.write_set.new.medium) c.if-set-eq0.false c.ranges.set.fits (refusal c.write_set.result) u.result u.type_inv u.ensures
    (ran_then c.in_ok-write_images.ensures.ran c.write_set.ensures.ran) in
    record { ran = r.0; installed = r.1 }
