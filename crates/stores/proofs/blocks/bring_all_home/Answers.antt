use Rattle.std.proofs.Common.{ℕ, Some, None, subst, arith}
use Rattle.std.proofs.lemmas.Result.{err_from_is_err_and}
use Rattle.faults.specs.Faults.{report}
use Rattle.media.specs.Media.{block_at}
use Rattle.media.specs.Plans.{Ran}
use Rattle.media.proofs.PlanLaws.{ran-count}
use Rattle.stores.specs.Images.{image_of}
use Rattle.stores.specs.Layout.{slot}
use Rattle.stores.specs.Plans.{every_page}
use Rattle.stores.proofs.PlanLaws.{run_none, run_more, run-cut, next-home}
use Rattle.stores.proofs.blocks.bring_all_home.Goals as goal

pub loop-number-init : goal.loop-number-init
loop-number-init g c =
    let m = g.M.Medium.model c.args.medium.now in
    run_none 0 c.args.mark (λ p. image_of (block_at m (slot every_page p))) m

pub bring_home-requires : goal.bring_home-requires
bring_home-requires g c = record { there = omega (arith, ran-count c.loop-number.invariant, c.requires.there) }

pub loop-number-preserved : goal.loop-number-preserved
loop-number-preserved g c =
    let m = g.M.Medium.model c.args.medium.now in
    let m₁ = g.M.Medium.model c.loop-number.medium in
    let m' = g.M.Medium.model c.bring_home.new.medium in
    let f = λ (p : ℕ). image_of (block_at m (slot every_page p)) in
    let n = c.loop-number.number in
    run_more 0 c.args.mark f n m m₁ m' c.loop-number.invariant
    (subst (λ ws. Ran m₁ ws None m') (next-home c.args.mark m m₁ f n (omega arith) c.loop-number.invariant) c.in_ok-bring_home.ensures.ran)

pub returns-in_err-bring_home : goal.returns-in_err-bring_home
returns-in_err-bring_home g c =
    let m = g.M.Medium.model c.args.medium.now in
    let m₁ = g.M.Medium.model c.loop-number.medium in
    let m' = g.M.Medium.model c.bring_home.new.medium in
    let f = λ (p : ℕ). image_of (block_at m (slot every_page p)) in
    let n = c.loop-number.number in
    let x = report c.in_err-bring_home.field-0.0 in
    let p = err_from_is_err_and c.from_residual.result c.from_residual.ensures.1 in
    record {
      ran = rw (p.1, p.2)
          (run-cut 0 c.args.mark f n m m₁ m' x (omega arith) c.loop-number.invariant
          (subst (λ ws. Ran m₁ ws (Some x) m') (next-home c.args.mark m m₁ f n (omega arith) c.loop-number.invariant) c.in_err-bring_home.ensures.ran));
    }
