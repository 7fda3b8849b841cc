-- What the code puts into a block, as the definitions have it.
use Rattle.std.proofs.Common.{◌≡◌, ℕ, ◌+◌, ◌-◌, ◌*◌, List, ◌++◌, length, take, drop, replicate, sym, ap, ◌∙◌, ap₂, arith}
use borrow.Rule.Slice.PartMut.{put_mid}
use Rattle.std.proofs.lemmas.List.{take-take, drop_all, append-nil, length-take, length-drop}
use Rattle.stores.specs.Images.{image_of, pictured}

-- the tail of a block cleared
pub tail_cleared : (block zeros : List ℕ) → length block ≡ 256 → zeros ≡ replicate (length (take 28 (drop 228 block))) 0 → put_mid 228 28 block zeros ≡ image_of block
tail_cleared block zeros e z =
    let n : length (take 28 (drop 228 block)) ≡ 28 = simp (length-take, length-drop) (omega arith) in
    ap (λ x. take 228 block ++ x)
    (ap₂ ◌++◌ (z ∙ ap (λ k. replicate k 0) n) (drop_all 28 (drop 228 block) (simp length-drop (omega arith))) ∙ append-nil (replicate 28 0))

-- the number and contents of an image out of all
pub image-front : (images front : List ℕ) (p : ℕ) → front ≡ take (p * 256 + 228 - p * 256) (drop (p * 256) images) → front ++ replicate 28 0 ≡ pictured images p
image-front images front p e =
    let k : p * 256 + 228 - p * 256 ≡ 228 = omega arith in
    let c : p * 256 ≡ 256 * p = omega arith in
    ap (λ x. x ++ replicate 28 0)
    (e ∙ ap (λ n. take n (drop (p * 256) images)) k ∙ ap (λ n. take 228 (drop n images)) c ∙ sym (take-take 228 256 (drop (256 * p) images) (omega arith)))
