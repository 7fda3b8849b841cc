use Rattle.std.proofs.Common.{◌≡◌, ap, ◌∙◌, arith}
use Rattle.volume.specs.Working.{image_at}
use Rattle.volume.proofs.WorkingLaws.{written_to, written_none, written-more, written_all}
use Rattle.volume.proofs.pages.WorkingPages.scatter.Goals as goal

pub loop-page-init : goal.loop-page-init
loop-page-init c = written_none c.args.set c.args.number c.args.new.now (image_at c.args.self.now.images)

pub loop-page-preserved : goal.loop-page-preserved
loop-page-preserved c =
    written-more c.args.set c.args.number c.args.new.now (image_at c.args.self.now.images) c.loop-page.page (image_at c.loop-page.self.images) (image_at c.lay.new.self.images)
    c.loop-page.invariant c.lay.ensures

pub returns : goal.returns
returns c = λ q.
    let s = c.args.set in
    let n = c.args.number in
    let new = c.args.new.now in
    let images = image_at c.args.self.now.images in
    let end : c.loop-page.page ≡ 64 = omega arith in
    written_all s n new images c.ranges.set.fits (image_at c.loop-page.self.images)
    (λ q. c.loop-page.invariant q ∙ ap (λ k. written_to s n new images k q) end) q
