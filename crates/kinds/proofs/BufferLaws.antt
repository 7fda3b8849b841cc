-- Buffers written in parts.
use Rattle.std.proofs.Common.{◌≡◌, ℕ, ◌+◌, List, [], ◌++◌, length, take, drop, ap, ◌∙◌, ap₂, arith}
use borrow.Rule.Slice.PartMut.{put_mid, post_of}
use Rattle.std.proofs.lemmas.List.{append-nil, length-take, length-drop, take_at, drop_at, drop_all, take_all}

pub exchange_is : (k n : ℕ) (old new x y : List ℕ) → k ≡ 224 → length old ≡ k + k → length new ≡ k + k → x ≡ take k (drop k old) → y ≡ take k old → put_mid k k (x ++ post_of 0 k new) y ≡ drop k old ++ take k old
exchange_is k n old new x y ek lo ln ex ey =
    let lx : length x ≡ k = ap length ex ∙ simp (length-take, length-drop) (omega arith) in
    let xs : x ≡ drop k old = ex ∙ take_all k (drop k old) (simp length-drop (omega arith)) in
    let front : take k (x ++ post_of 0 k new) ≡ drop k old = take_at x (post_of 0 k new) k lx ∙ xs in
    let back : drop k (drop k (x ++ post_of 0 k new)) ≡ [] = ap (drop k) (drop_at x (post_of 0 k new) k lx) ∙ drop_all k (drop k new) (simp length-drop (omega arith)) in
    ap₂ ◌++◌ front (ap₂ ◌++◌ ey back ∙ append-nil (take k old))
