-- Blocks of a run of bytes.
use Rattle.std.proofs.Common.{◌≡◌, ℕ, zero, suc, ◌+◌, ◌-◌, ◌*◌, ◌/◌, ◌<◌, ◌≤◌, List, [], ◌∷◌, ◌++◌, length, get_or, take, drop, set, sym, refl, ap, ◌∙◌, ap₂, mul-le-mul_left, mul-suc, arith}
use borrow.Rule.Slice.PartMut.{put_mid}
use Rattle.std.proofs.lemmas.List.{length-take, length-drop, length-append, drop-drop, take_at, drop_at, drop-append-le, drop-take}
use Rattle.std.proofs.lemmas.Slice.{drop-put_mid, take-put_mid_below}
use Rattle.media.specs.Memory.{chunks, fitting, blocks_of, behind}

pub length-chunks : (n : ℕ) (bs : List ℕ) → length (chunks n bs) ≡ n
unfolding chunks
length-chunks zero bs = refl
length-chunks (suc n) bs = ap suc (length-chunks n (drop 256 bs))

pub get_d_chunks : (n : ℕ) (bs : List ℕ) (b : ℕ) → b < n → get_or (chunks n bs) b [] ≡ take 256 (drop (256 * b) bs)
unfolding chunks
get_d_chunks zero bs b h = absurd (omega arith)
get_d_chunks (suc n) bs zero h = refl
get_d_chunks (suc n) bs (suc b) h =
    get_d_chunks n (drop 256 bs) b (omega arith)
    ∙ ap (take 256) (drop-drop (256 * b) 256 bs ∙ ap (λ k. drop k bs) (let e = mul-suc 256 b in omega arith))

-- what a write further on leaves of the front, and of the rest
put-behind : (k a : ℕ) (bs d : List ℕ) → k + a ≤ length bs → drop k (put_mid (k + a) 256 bs d) ≡ put_mid a 256 (drop k bs) d
put-behind k a bs d l =
    let m : k ≤ length (take (k + a) bs) = simp length-take (omega arith) in
    drop-append-le k (take (k + a) bs) (d ++ drop 256 (drop (k + a) bs)) m
    ∙ ap₂ (λ x y. x ++ (d ++ drop 256 y)) (drop-take k a bs) (sym (drop-drop a k bs))

pub chunks-put : (n : ℕ) (bs : List ℕ) (b : ℕ) (d : List ℕ) → b < n → 256 * n ≤ length bs → length d ≡ 256
    → chunks n (put_mid (256 * b) 256 bs d) ≡ set (chunks n bs) b d
unfolding chunks
chunks-put zero bs b d h l e = absurd (omega arith)
chunks-put (suc n) bs zero d h l e = ap₂ ◌∷◌ (take_at d (drop 256 bs) 256 e) (ap (chunks n) (drop_at d (drop 256 bs) 256 e))
chunks-put (suc n) bs (suc b) d h l e =
    let two = mul-suc 256 b in
    let more = mul-suc 256 n in
    let long = length-drop 256 bs in
    let at : 256 * suc b ≡ 256 + 256 * b = omega arith in
    let le : 256 * suc b ≤ length bs = omega (arith, mul-le-mul_left 256 h) in
    ap₂ ◌∷◌
    (take-put_mid_below (256 * suc b) 256 bs d 256 (omega arith) le)
    (ap (chunks n) (ap (λ a. drop 256 (put_mid a 256 bs d)) at ∙ put-behind 256 (256 * b) bs d (omega arith))
    ∙ chunks-put n (drop 256 bs) b d (omega arith) (omega arith) e)

-- a block written among bytes that stay as many: the blocks, and what is behind the last
pub length-put : (a : ℕ) (bs d : List ℕ) → a + 256 ≤ length bs → length d ≡ 256 → length (put_mid a 256 bs d) ≡ length bs
length-put a bs d l e = simp (length-append, length-take, length-drop) (omega arith)

pub blocks-put : (bs d : List ℕ) (b : ℕ) → b < fitting bs → length d ≡ 256
    → (blocks_of (put_mid (b * 256) (b * 256 + 256 - b * 256) bs d) ≡ set (blocks_of bs) b d)
    × (behind (put_mid (b * 256) (b * 256 + 256 - b * 256) bs d) ≡ behind bs)
blocks-put bs d b h e =
    let k : b * 256 + 256 - b * 256 ≡ 256 = omega arith in
    let le : b * 256 + 256 ≤ length bs = omega arith in
    let at : b * 256 ≡ 256 * b = omega arith in
    let same : fitting (put_mid (b * 256) 256 bs d) ≡ fitting bs = ap (λ n. n / 256) (length-put (b * 256) bs d le e) in
    rw k (
      ap (λ n. chunks n (put_mid (b * 256) 256 bs d)) same ∙ ap (λ a. chunks (fitting bs) (put_mid a 256 bs d)) at
          ∙ chunks-put (fitting bs) bs b d h (omega arith) e,
      ap (λ n. drop (256 * n) (put_mid (b * 256) 256 bs d)) same
          ∙ drop-put_mid (b * 256) 256 bs d (256 * fitting bs) (omega arith) (omega arith) e,
    )
