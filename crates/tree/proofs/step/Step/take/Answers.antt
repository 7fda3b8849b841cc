use Rattle.std.proofs.Common.{sym, ap, ◌∙◌}
use Rattle.kinds.specs.Kinds.{filled}
use Rattle.tree.specs.Steps.{change}
use Rattle.tree.specs.TreeLaws.{half_upper}
use Rattle.tree.proofs.step.Step.take.Goals as goal

pub returns-in-Upper-clause-buffer : goal.returns-in-Upper-clause-buffer
returns-in-Upper-clause-buffer g c =
    let o = g.O.KeyOrder.ordering in
    let e = half_upper o c.args.old.now ∙ ap (λ s. change o s c.args.old.now) (sym c.in-Upper.is) in
    c.half-in-Upper.ensures.buffer ∙ ap (λ x. filled x c.args.new.now) e
