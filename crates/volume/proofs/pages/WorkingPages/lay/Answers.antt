use Rattle.std.proofs.Common.{sym, ap, ◌∙◌, arith}
use Rattle.std.proofs.lemmas.Bool.{cond-true}
use Rattle.sets.specs.Sets.{has, size}
use Rattle.sets.specs.Words.{part}
use Rattle.volume.specs.Working.{image_at, share_of, replaced, stamped}
use Rattle.volume.proofs.WorkingLaws.{room-more}
use Rattle.volume.proofs.pages.WorkingPages.lay.Goals as goal

pub bytes_at-requires : goal.bytes_at-requires
bytes_at-requires c =
    let s = c.args.set in
    omega (arith, c.place.ensures, c.requires, room-more s c.args.page.number (size s) c.args.page.known (omega arith) (sym c.if-not-contains.ensures))

pub returns : goal.returns
returns c = λ q.
    let images = image_at c.args.self.now.images in
    let new = c.args.new.now in
    let s = c.args.set in
    let p = c.args.page.number in
    let n = c.args.number in
    c.stamp.ensures q
    ∙ ap (λ x. replaced p (stamped n x (images p)) images q) (c.bytes_at.ensures ∙ ap (λ a. part a 224 new) c.place.ensures)
    ∙ sym (cond-true (has s p) (replaced p (stamped n (share_of s new p) (images p)) images q) (images q) (sym c.if-not-contains.ensures))
