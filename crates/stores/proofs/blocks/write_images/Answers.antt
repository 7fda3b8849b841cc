use Rattle.std.proofs.Common.{arith}
use Rattle.std.proofs.lemmas.Result.{err_from_is_err_and}
use Rattle.faults.specs.Faults.{report}
use Rattle.stores.specs.Images.{pictured}
use Rattle.stores.proofs.PlanLaws.{run_none, run_more, run-cut}
use Rattle.stores.proofs.blocks.write_images.Goals as goal

pub loop-number-init : goal.loop-number-init
loop-number-init g c = run_none c.args.upper c.args.set (pictured c.args.images.now) (g.M.Medium.model c.args.medium.now)

pub loop-number-preserved : goal.loop-number-preserved
loop-number-preserved g c =
    run_more c.args.upper c.args.set (pictured c.args.images.now) c.loop-number.number
    (g.M.Medium.model c.args.medium.now) (g.M.Medium.model c.loop-number.medium) (g.M.Medium.model c.put_image.new.medium)
    c.loop-number.invariant c.in_ok-put_image.ensures.ran

pub returns-in_err-put_image : goal.returns-in_err-put_image
returns-in_err-put_image g c =
    let p = err_from_is_err_and c.from_residual.result c.from_residual.ensures.1 in
    record {
      ran = rw (p.1, p.2)
          (run-cut c.args.upper c.args.set (pictured c.args.images.now) c.loop-number.number
          (g.M.Medium.model c.args.medium.now) (g.M.Medium.model c.loop-number.medium) (g.M.Medium.model c.put_image.new.medium)
          (report c.in_err-put_image.field-0.0) (omega arith) c.loop-number.invariant c.in_err-put_image.ensures.ran);
    }
