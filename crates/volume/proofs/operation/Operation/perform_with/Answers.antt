use Rattle.std.proofs.Common.{length, ap, ◌∙◌, arith}
use Rattle.kinds.specs.Refusals.{code_of, coded}
use Rattle.kinds.proofs.RefusalLaws.{coded_named}
use Rattle.kinds.specs.Kinds.{answer, filled}
use Rattle.volume.specs.Working.{image_at}
use Rattle.volume.specs.Performing.{outcome}
use Rattle.std.proofs.lemmas.Result.{err_from_is_err_and}
use Rattle.volume.proofs.PerformLaws.{reply-gathered, done_ok, done-err}
use Rattle.volume.proofs.operation.Operation.perform_with.Goals as goal

pub returns : goal.returns
returns g c =
    let k = g.K.Kind.meaning in
    let images = image_at c.args.pages.now.images in
    let is = reply-gathered k g.met.K.Kind.lawful c.args.self.now.record.body.now c.args.self.now.record.reads c.args.self.now.record.writes c.args.self.now.scoped images c.gather-used.result c.gather-used.new.old (length c.args.new.now)
    c.gather-used.ensures.used (omega arith) c.gather-used.ensures.front c.requires in
    let a = ap coded c.in_ok-effect.ensures.answer ∙ coded_named _ ∙ ap answer is in
    record {
      answer = a;
      images = done_ok (outcome k c.args.self.now.record.body.now c.args.self.now.record.reads images) c.effect.new.new c.args.new.now c.args.self.now.record.writes c.args.self.now.record.number images
          (image_at c.scatter.new.self.images) a (c.in_ok-effect.ensures.buffer ∙ ap (λ x. filled x c.args.new.now) is) c.scatter.ensures;
    }

pub returns-in_err-effect : goal.returns-in_err-effect
returns-in_err-effect g c =
    let k = g.K.Kind.meaning in
    let images = image_at c.args.pages.now.images in
    let is = reply-gathered k g.met.K.Kind.lawful c.args.self.now.record.body.now c.args.self.now.record.reads c.args.self.now.record.writes c.args.self.now.scoped images c.gather-used.result c.gather-used.new.old (length c.args.new.now)
    c.gather-used.ensures.used (omega arith) c.gather-used.ensures.front c.requires in
    let a = ap coded c.in_err-effect.ensures.answer ∙ coded_named _ ∙ ap answer is in
    let p = err_from_is_err_and c.from_residual.result c.from_residual.ensures.1 in
    rw (p.1, p.2)
    (record { answer = a; images = done-err (outcome k c.args.self.now.record.body.now c.args.self.now.record.reads images) (code_of c.in_err-effect.field-0.0) c.args.self.now.record.writes c.args.self.now.record.number images a })
