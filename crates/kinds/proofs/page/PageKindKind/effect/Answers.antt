use Rattle.std.proofs.Common.{length, sym, ap, ◌∙◌}
use Rattle.kinds.specs.Actions.{sets}
use Rattle.kinds.specs.Kinds.{answer, filled}
use Rattle.kinds.specs.Refusals.{named}
use Rattle.kinds.specs.Views.{view, viewed}
use Rattle.kinds.specs.ActionLaws.{page-reply_none, page-reply_short, page-reply_done, parse-good, action-ready}
use Rattle.kinds.proofs.RefusalLaws.{refused, malformed, misfit, fit, fit-lengths}
use Rattle.kinds.proofs.page.PageKindKind.effect.Goals as goal

pub returns-in_err-op : goal.returns-in_err-op
returns-in_err-op c =
    let none = ap viewed (sym c.in_err-op.ensures.ok_part) ∙ c.parse.ensures in
    let r = page-reply_none c.args.body.now c.args.old.now (length c.args.new.now) none in
    record {
      answer = refused _ _ _ _ c.from_residual.ensures.1 (malformed _ _ c.in_err-op.ensures.value) r;
      buffer = ap (λ x. filled x c.args.new.now) (sym r);
    }

-- the test of the lengths, at the operation's sets
pub returns-in_err-sized : goal.returns-in_err-sized
returns-in_err-sized c =
    let a = view c.in_ok-op.op in
    let old = c.args.old.now in
    let n = length c.args.new.now in
    let some = ap viewed (sym c.in_ok-op.ensures.ok_part) ∙ c.parse.ensures in
    let m = misfit (length old) n _ (sets a) _ c.sets.ensures c.in_err-sized.ensures in
    let r = page-reply_short c.args.body.now old n a some m.0 in
    record {
      answer = refused _ _ _ _ c.from_residual-in_err-sized.ensures.1 m.1 r;
      buffer = ap (λ x. filled x c.args.new.now) (sym r);
    }

pub write-requires : goal.write-requires
write-requires c =
    let a = view c.in_ok-op.op in
    let k = length c.args.old.now in
    let n = length c.args.new.now in
    let some = ap viewed (sym c.in_ok-op.ensures.ok_part) ∙ c.parse.ensures in
    let x = fit-lengths k n (sets a) (fit k n _ (sets a) c.sets.ensures c.in_ok-sized.ensures) in
    action-ready a k n (parse-good c.args.body.now a (sym some)) x.0 x.1

pub returns : goal.returns
returns c =
    let a = view c.in_ok-op.op in
    let old = c.args.old.now in
    let n = length c.args.new.now in
    let some = ap viewed (sym c.in_ok-op.ensures.ok_part) ∙ c.parse.ensures in
    let r = page-reply_done c.args.body.now old n a some (fit (length old) n _ (sets a) c.sets.ensures c.in_ok-sized.ensures) in
    record { answer = ap (λ x. named (answer x)) (sym r); buffer = c.write.ensures ∙ ap (λ x. filled x c.args.new.now) (sym r) }
