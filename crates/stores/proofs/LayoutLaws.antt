-- Where pages lie, and what a write to a block that no page uses leaves as it was.
use Rattle.std.proofs.Common.{◌≡◌, ℕ, ◌+◌, ◌*◌, ◌^◌, ◌<◌, ◌≤◌, Bool, true, false, cond, not, ltb, List, [], ◌++◌, length, take, drop, set, replicate, sym, refl, ap, ◌∙◌, inl, inr, arith}
use mathlib.Core.Path.{fun_ext}
use Rattle.std.proofs.lemmas.List.{length-take, length-drop, length-append, get_or-set_same, get_or-set_other, take_at}
use Rattle.std.proofs.lemmas.Bool.{cases_lt, lt-ltb, le-ltb, both_ways, cond-true, cond-false}
use Rattle.sets.specs.Sets.{has}
use Rattle.sets.specs.Words.{number, bytes_of}
use Rattle.sets.proofs.WordLaws.{bytes-length, number-bytes}
use Rattle.sets.proofs.SetLaws.{has-none, has-not}
use Rattle.stores.specs.Images.{image_of, blank, pictured}
use Rattle.stores.specs.Layout.{block_in, set_in, block_of_set, slot, page_in}

-- ---- images

pub image-length : (b : List ℕ) → 228 ≤ length b → length (image_of b) ≡ 256
image-length b h = length-append (take 228 b) (replicate 28 0) ∙ (let n = length-take 228 b in omega arith)

pub image-again : (b : List ℕ) → 228 ≤ length b → image_of (image_of b) ≡ image_of b
image-again b h =
    let n = length-take 228 b in
    ap (λ x. x ++ replicate 28 0) (take_at (take 228 b) (replicate 28 0) 228 (omega arith))

-- one of 64 images
picture_part : (images : List ℕ) (p : ℕ) → length images ≡ 16384 → p < 64 → length (take 256 (drop (256 * p) images)) ≡ 256
picture_part images p e h = simp (length-take, length-drop) (omega arith)

pub picture_length : (images : List ℕ) (p : ℕ) → length images ≡ 16384 → p < 64 → length (pictured images p) ≡ 256
picture_length images p e h = image-length (take 256 (drop (256 * p) images)) (omega (arith, picture_part images p e h))

pub picture_again : (images : List ℕ) (p : ℕ) → length images ≡ 16384 → p < 64 → image_of (pictured images p) ≡ pictured images p
picture_again images p e h = image-again (take 256 (drop (256 * p) images)) (omega (arith, picture_part images p e h))

-- ---- slots

pub slot-below : (u p : ℕ) → p < 64 → slot u p < 128
slot-below u p h = go (has u p)
  where
    go : (t : Bool) → cond t (64 + p) p < 128
    go true = omega arith
    go false = omega arith

-- two pages share no slot, and the two slots of a page are apart
pub slot_same : (u v p q : ℕ) → p < 64 → q < 64 → slot u p ≡ slot v q → (p ≡ q) × (has u p ≡ has v q)
slot_same u v p q hp hq e = go (has u p) (has v q) e
  where
    go : (s t : Bool) → cond s (64 + p) p ≡ cond t (64 + q) q → (p ≡ q) × (s ≡ t)
    go true true e = (omega arith, refl)
    go true false e = absurd (omega arith)
    go false true e = absurd (omega arith)
    go false false e = (omega arith, refl)

pub slot-upper : (u p : ℕ) → has u p ≡ true → slot u p ≡ 64 + p
slot-upper u p h = cond-true (has u p) (64 + p) p h

pub slot-lower : (u p : ℕ) → has u p ≡ false → slot u p ≡ p
slot-lower u p h = cond-false (has u p) (64 + p) p h

pub slot-like : (u v p : ℕ) → has u p ≡ has v p → slot u p ≡ slot v p
slot-like u v p h = ap (λ t. cond t (64 + p) p) h

-- ---- the set in block 128

pub set-length : (s : ℕ) → length (block_of_set s) ≡ 256
set-length s = length-append (bytes_of 8 s) (replicate 248 0) ∙ ap (λ n. n + 248) (bytes-length 8 s)

pub set_reads : (s : ℕ) → s < 2 ^ 64 → number (take 8 (block_of_set s)) ≡ s
set_reads s h = ap number (take_at (bytes_of 8 s) (replicate 248 0) 8 (bytes-length 8 s)) ∙ number-bytes 8 s h

pub put-set : (bs : List (List ℕ)) (s : ℕ) → 128 < length bs → s < 2 ^ 64 → set_in (set bs 128 (block_of_set s)) ≡ s
put-set bs s l h = ap (λ b. number (take 8 b)) (get_or-set_same bs 128 (block_of_set s) [] l) ∙ set_reads s h

pub block-other : (bs : List (List ℕ)) (a b : ℕ) (d : List ℕ) → (b ≡ a → ⊥) → block_in (set bs a d) b ≡ block_in bs b
block-other bs a b d ne = get_or-set_other bs a b d [] ne

pub put-below : (bs : List (List ℕ)) (b : ℕ) (d : List ℕ) → b < 128 → set_in (set bs b d) ≡ set_in bs
put-below bs b d h = ap (λ x. number (take 8 x)) (block-other bs b 128 d (omega arith))

-- ---- what is seen of the pages

pub page-at : (bs : List (List ℕ)) (p : ℕ) → p < 64 → page_in bs p ≡ image_of (block_in bs (slot (set_in bs) p))
page-at bs p h = cond-true (ltb p 64) (image_of (block_in bs (slot (set_in bs) p))) blank (lt-ltb p 64 h)

pub page-none : (bs : List (List ℕ)) (p : ℕ) → 64 ≤ p → page_in bs p ≡ blank
page-none bs p h = cond-false (ltb p 64) (image_of (block_in bs (slot (set_in bs) p))) blank (le-ltb p 64 h)

-- pages are seen alike where they are alike below 64
pub pages-same : (xs ys : List (List ℕ)) → ((p : ℕ) → p < 64 → page_in xs p ≡ page_in ys p) → page_in xs ≡ page_in ys
pages-same xs ys h = fun_ext (λ p. elim (cases_lt p 64) [ inl l ↦ h p l | inr over ↦ page-none xs p over ∙ sym (page-none ys p over) ])

-- a write to the slot that page p does not use
pub put-spare : (bs : List (List ℕ)) (u p : ℕ) (d : List ℕ) → p < 64 → has u p ≡ not (has (set_in bs) p)
    → (page_in (set bs (slot u p) d) ≡ page_in bs) × (set_in (set bs (slot u p) d) ≡ set_in bs)
put-spare bs u p d h spare = (pages-same (set bs (slot u p) d) bs (λ q l. page-at (set bs (slot u p) d) q l ∙ ap (λ s. image_of (block_in (set bs (slot u p) d) (slot s q))) same ∙ ap image_of (block-other bs (slot u p) (slot (set_in bs) q) d (apart q l)) ∙ sym (page-at bs q l)), same)
  where
    same : set_in (set bs (slot u p) d) ≡ set_in bs
    same = put-below bs (slot u p) d (slot-below u p h)

    not-self : (t : Bool) → t ≡ not t → ⊥
    not-self true e = both_ways true e refl
    not-self false e = both_ways false refl e

    apart : (q : ℕ) → q < 64 → slot (set_in bs) q ≡ slot u p → ⊥
    apart q l e =
        let s = slot_same (set_in bs) u q p l h e in
        not-self (has (set_in bs) p) (sym (ap (λ x. has (set_in bs) x) s.0) ∙ s.1 ∙ spare)

-- every page is in the set of all of them
pub every : (p : ℕ) → p < 64 → has 18446744073709551615 p ≡ true
every p l = has-not 64 0 p (omega arith) l ∙ ap not (has-none p)
