use Rattle.std.proofs.Common.{◌≡◌, ◌+◌, ◌-◌, ◌*◌, ◌≤◌, [], ◌++◌, length, take, sym, refl, ap, ◌∙◌, ap₂, arith, rules}
use borrow.Rule.Slice.PartMut.{put_mid}
use Rattle.std.proofs.lemmas.Bool.{cond-true, cond-false}
use Rattle.std.proofs.lemmas.List.{append-nil}
use Rattle.sets.specs.Sets.{has, count, size}
use Rattle.sets.proofs.SetLaws.{count-le}
use Rattle.volume.specs.Working.{image_at, contents_in}
use Rattle.volume.proofs.WorkingLaws.{lifted, contents-length, room-more, count-in, count-out}
use Rattle.volume.proofs.pages.WorkingPages.lift.Goals as goal
use Rattle.volume.proofs.pages.WorkingPages.lift.Goals.{After-place-at}

-- the page's contents lie within the buffer
room : (c : After-place-at) → c.place-at.result + 224 ≤ length c.args.old.now
room c =
    let s = c.args.set in
    let p = c.args.page.number in
    omega (arith, c.place-at.ensures, c.requires, room-more s p (size s) c.args.page.known (omega arith) (sym c.if-not-contains.ensures))

pub overflow_add-at : goal.overflow_add-at
overflow_add-at c = omega (arith, c.place-at.ensures, count-le (has c.args.set) c.args.page.number, c.args.page.known)

pub slice_bounds-copy_from_slice-end : goal.slice_bounds-copy_from_slice-end
slice_bounds-copy_from_slice-end c = let l = room c in search rules

pub returns-then-not-contains : goal.returns-then-not-contains
returns-then-not-contains c =
    let s = c.args.set in
    let p = c.args.page.number in
    let old = c.args.old.now in
    let no = sym c.if-not-contains.ensures in
    ap (λ n. take (224 * n) old) (count-out s p no)
    ∙ sym (append-nil (take (224 * count (has s) p) old))
    ∙ ap (λ x. take (224 * count (has s) p) old ++ x) (sym (cond-false (has s p) (contents_in (image_at c.args.self.now.images p)) [] no))

pub returns : goal.returns
returns c =
    let images = c.args.self.now.images in
    let s = c.args.set in
    let p = c.args.page.number in
    let old = c.args.old.now in
    let at = c.place-at.result in
    let yes = sym c.if-not-contains.ensures in
    let x = contents_in (image_at images p) in
    let same = c.copy_from_slice.ensures.after ∙ c.contents.ensures in
    let next : 224 * count (has s) (p + 1) ≡ at + 224 = omega (arith, c.place-at.ensures, count-in s p yes) in
    ap (λ n. take n (put_mid at (at + 224 - at) old c.copy_from_slice.new.self)) next
    ∙ lifted at old (take at old) c.copy_from_slice.new.self (room (goal.at.returns c).After-place-at)
    (ap length same ∙ contents-length images p c.args.self.now.sized c.args.page.known) refl
    ∙ ap₂ (λ n y. take n old ++ y) c.place-at.ensures (same ∙ sym (cond-true (has s p) x [] yes))
