use Rattle.std.proofs.Common.{◌≡◌, length, sym, ap, ◌∙◌, arith}
use Rattle.sets.specs.Words.{over, bytes_of}
use Rattle.volume.specs.Working.{image_at, stamped}
use Rattle.volume.proofs.WorkingLaws.{stamped-is, image-length}
use Rattle.volume.proofs.pages.WorkingPages.new_image.Goals as goal

pub returns : goal.returns
returns c =
    let image = image_at c.args.self.now.images c.args.page.number in
    let same = c.copy_from_slice.ensures.after in
    let long : length c.args.contents.now ≡ 224 = omega arith in
    stamped-is c.args.number image c.write_at.new.bytes c.copy_from_slice.new.self
    (image-length c.args.self.now.images c.args.page.number c.args.self.now.sized c.args.page.known)
    (c.write_at.ensures ∙ ap (over 0 (bytes_of 4 c.args.number)) c.image.ensures)
    (ap length same ∙ long)
    ∙ ap (λ x. stamped c.args.number x image) same

pub slice_bounds-write_at-end : goal.slice_bounds-write_at-end
slice_bounds-write_at-end c =
    sym (ap length c.image.ensures ∙ image-length c.args.self.now.images c.args.page.number c.args.self.now.sized c.args.page.known)
