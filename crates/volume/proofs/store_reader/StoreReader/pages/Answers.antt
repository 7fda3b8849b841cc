use Rattle.std.proofs.Common.{◌≡◌, ap, ◌∙◌, arith}
use Rattle.volume.specs.Working.{image_at, replaced}
use Rattle.volume.proofs.RecoverLaws.{taken_to, taken_more, taken-all}
use Rattle.volume.proofs.store_reader.StoreReader.pages.Goals as goal

pub loop-number-preserved : goal.loop-number-preserved
loop-number-preserved g c = λ q.
    let images = (g.S.PageStore.meaning c.args.self.now.store.now).image in
    let p = c.loop-number.number in
    let cur = image_at c.loop-number.pages.images in
    taken_more images p cur (image_at c.set_image.new.self.images) c.loop-number.invariant
    (λ r. c.set_image.ensures r ∙ ap (λ x. replaced p x cur r) c.image.ensures) q

pub returns : goal.returns
returns g c = λ q.
    let images = (g.S.PageStore.meaning c.args.self.now.store.now).image in
    let end : c.loop-number.number ≡ 64 = omega arith in
    taken-all images c.loop-number.pages.images c.loop-number.pages.sized (λ r. c.loop-number.invariant r ∙ ap (λ k. taken_to images k (image_at c.loop-number.pages.images) r) end) q
