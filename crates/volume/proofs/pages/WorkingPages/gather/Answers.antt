use Rattle.std.proofs.Common.{◌≡◌, ◌*◌, cond, [], ◌++◌, take, sym, ap, ◌∙◌, arith}
use Rattle.sets.specs.Sets.{has, count}
use Rattle.sets.proofs.SetLaws.{count_none}
use Rattle.volume.specs.Working.{image_at, contents_in}
use Rattle.volume.proofs.WorkingLaws.{gathered_to, gathered_none, gathered-more}
use Rattle.volume.proofs.pages.WorkingPages.gather.Goals as goal

pub loop-number-init : goal.loop-number-init
loop-number-init c =
    ap (λ n. take (224 * n) c.args.old.now) (count_none (has c.args.set)) ∙ sym (gathered_none c.args.set (image_at c.args.self.now.images))

pub loop-number-preserved : goal.loop-number-preserved
loop-number-preserved c =
    let s = c.args.set in
    let p = c.loop-number.number in
    let images = image_at c.args.self.now.images in
    c.lift.ensures ∙ ap (λ x. x ++ cond (has s p) (contents_in (images p)) []) c.loop-number.invariant ∙ sym (gathered-more s images p)

pub returns-clause-front : goal.returns-clause-front
returns-clause-front c =
    let s = c.args.set in
    let images = image_at c.args.self.now.images in
    let end : c.loop-number.number ≡ 64 = omega arith in
    ap (λ n. take (224 * n) c.loop-number.old) (c.size.ensures ∙ ap (count (has s)) (sym end)) ∙ c.loop-number.invariant ∙ ap (gathered_to s images) end
