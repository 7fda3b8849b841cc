use Rattle.std.proofs.Common.{Some, None, sym, ◌∙◌, subst}
use Rattle.std.proofs.lemmas.Result.{err_from_is_err_and}
use Rattle.faults.specs.Faults.{report, refusal}
use Rattle.media.specs.Plans.{Ran}
use Rattle.media.specs.Plans.Ran.{done}
use Rattle.media.proofs.PlanLaws.{ran_then, ran_refused}
use Rattle.stores.proofs.PlanLaws.{settle_none, settle_some}
use Rattle.stores.proofs.blocks.settle.Goals as goal

pub returns-then-mark-eq0 : goal.returns-then-mark-eq0
returns-then-mark-eq0 g c =
    let m = g.M.Medium.model c.args.medium.now in
    record { ran = subst (λ ws. Ran m ws None m) (sym (settle_none m.blocks (sym c.load_set-mark.ensures ∙ c.if-mark-eq0.true))) done }

pub returns-in_err-bring_all_home : goal.returns-in_err-bring_all_home
returns-in_err-bring_all_home g c =
    let m = g.M.Medium.model c.args.medium.now in
    let m₁ = g.M.Medium.model c.bring_all_home.new.medium in
    let x = report c.in_err-bring_all_home.field-0.0 in
    let p = err_from_is_err_and c.from_residual.result c.from_residual.ensures.1 in
    record {
      ran = rw (p.1, p.2)
          (subst (λ ws. Ran m ws (Some x) m₁) (sym (settle_some m.blocks c.load_set-mark.result c.load_set-mark.ensures c.if-mark-eq0.false))
          (ran_refused _ c.in_err-bring_all_home.ensures.ran));
    }

pub returns : goal.returns
returns g c =
    let m = g.M.Medium.model c.args.medium.now in
    let m' = g.M.Medium.model c.write_set.new.medium in
    record {
      ran = subst (λ ws. Ran m ws (refusal c.write_set.result) m') (sym (settle_some m.blocks c.load_set-mark.result c.load_set-mark.ensures c.if-mark-eq0.false))
          (ran_then c.in_ok-bring_all_home.ensures.ran c.write_set.ensures.ran);
    }
