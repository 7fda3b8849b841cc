use Rattle.std.proofs.Common.{◌≡◌, length, sym, ap, ◌∙◌}
use Rattle.kinds.specs.Kinds.{answer, filled, reply}
use Rattle.kinds.proofs.RefusalLaws.{handed_on, refused, malformed, misfit, fit, fit-lengths}
use Rattle.kinds.specs.Refusals.{named}
use Rattle.tree.specs.Steps.{sets, change, tree_meaning}
use Rattle.tree.specs.StepLaws.{parse-good, step-ready}
use Rattle.tree.specs.TreeLaws.{tree-reply_none, tree-reply_short, tree-reply_done}
use Rattle.tree.proofs.UnfitLaws.{unfit_named}
use Rattle.tree.proofs.kind.TreeKindKind.effect.Goals as goal

pub returns-in_err-step : goal.returns-in_err-step
returns-in_err-step g c =
    let none = sym c.in_err-step.ensures.ok_part ∙ c.parse.ensures in
    let r = tree-reply_none g.O.KeyOrder.ordering c.args.body.now c.args.old.now (length c.args.new.now) none in
    record { answer = refused _ _ _ _ c.from_residual.ensures.1 (malformed _ _ c.in_err-step.ensures.value) r; buffer = ap (λ x. filled x c.args.new.now) (sym r) }

pub returns-in_err-sized : goal.returns-in_err-sized
returns-in_err-sized g c =
    let s = c.in_ok-step.step in
    let old = c.args.old.now in
    let n = length c.args.new.now in
    let some = sym c.in_ok-step.ensures.ok_part ∙ c.parse.ensures in
    let m = misfit (length old) n _ (sets s) _ c.sets.ensures c.in_err-sized.ensures in
    let r = tree-reply_short g.O.KeyOrder.ordering c.args.body.now old n s some m.0 in
    record { answer = refused _ _ _ _ c.from_residual-in_err-sized.ensures.1 m.1 r; buffer = ap (λ x. filled x c.args.new.now) (sym r) }

pub take-requires : goal.take-requires
take-requires g c =
    let s = c.in_ok-step.step in
    let k = length c.args.old.now in
    let n = length c.args.new.now in
    let some = sym c.in_ok-step.ensures.ok_part ∙ c.parse.ensures in
    let x = fit-lengths k n (sets s) (fit k n _ (sets s) c.sets.ensures c.in_ok-sized.ensures) in
    step-ready s k n (parse-good c.args.body.now s (sym some)) x.0 x.1

pub returns-in_err-take : goal.returns-in_err-take
returns-in_err-take g c =
    let s = c.in_ok-step.step in
    let old = c.args.old.now in
    let n = length c.args.new.now in
    let some = sym c.in_ok-step.ensures.ok_part ∙ c.parse.ensures in
    let r : change g.O.KeyOrder.ordering s old ≡ reply (tree_meaning g.O.KeyOrder.ordering) c.args.body.now old n = sym (tree-reply_done g.O.KeyOrder.ordering c.args.body.now old n s some (fit (length old) n _ (sets s) c.sets.ensures c.in_ok-sized.ensures)) in
    record {
      answer = handed_on _ _ c.from_residual-in_err-take.ensures.1 ∙ unfit_named _ _ c.in_err-take.ensures.answer ∙ ap (λ x. named (answer x)) r;
      buffer = c.in_err-take.ensures.buffer ∙ ap (λ x. filled x c.args.new.now) r;
    }

pub returns : goal.returns
returns g c =
    let s = c.in_ok-step.step in
    let old = c.args.old.now in
    let n = length c.args.new.now in
    let some = sym c.in_ok-step.ensures.ok_part ∙ c.parse.ensures in
    let r : change g.O.KeyOrder.ordering s old ≡ reply (tree_meaning g.O.KeyOrder.ordering) c.args.body.now old n = sym (tree-reply_done g.O.KeyOrder.ordering c.args.body.now old n s some (fit (length old) n _ (sets s) c.sets.ensures c.in_ok-sized.ensures)) in
    record { answer = ap named (c.in_ok-take.ensures.answer ∙ ap answer r); buffer = c.in_ok-take.ensures.buffer ∙ ap (λ x. filled x c.args.new.now) r }
