use Rattle.std.proofs.Common.{◌≡◌, ◌<◌, cond, eqb, length, ap, ◌∙◌, arith}
use Rattle.volume.specs.Working.{image_at}
use Rattle.volume.proofs.WorkingLaws.{put-image}
use Rattle.volume.proofs.pages.WorkingPages.set_image.Goals as goal

pub returns : goal.returns
returns c = λ q.
    let same = c.copy_from_slice.ensures.after in
    let images = image_at c.args.self.now.images in
    let p : c.index-at.result < 64 = omega (arith, c.index-at.ensures) in
    let long : length c.args.image.now ≡ 256 = omega arith in
    put-image c.args.self.now.images c.copy_from_slice.new.self c.index-at.result c.args.self.now.sized p (ap length same ∙ long) q
    ∙ ap (λ x. cond (eqb q c.index-at.result) x (images q)) same ∙ ap (λ p. cond (eqb q p) c.args.image.now (images q)) c.index-at.ensures
