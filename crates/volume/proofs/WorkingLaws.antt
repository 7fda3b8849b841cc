-- The working pages: one image replaced, contents gathered and written.
use Rattle.std.proofs.Common.{◌≡◌, ℕ, zero, suc, ◌+◌, ◌-◌, ◌*◌, ◌/◌, ◌%◌, ◌^◌, ◌<◌, ◌≤◌, Bool, true, false, cond, eqb, ltb, List, [], ◌∷◌, ◌++◌, length, get_or, take, drop, set, sym, refl, ap, ◌∙◌, ap₂, inl, inr, arith}
use mathlib.Core.Path.{fun_ext}
use Rattle.std.proofs.Math.Nat.{div-div-eq-div-mul}
use Rattle.std.proofs.lemmas.Nat.{pow-add}
use borrow.Rule.Slice.PartMut.{put_mid}
use Rattle.std.proofs.lemmas.List.{length-take, length-drop, drop_all, drop-drop, take_all, take_at, drop_at, append-nil, flat_map_more, get_or-set_same, get_or-set_other}
use Rattle.std.proofs.lemmas.Bool.{cases_lt, cases_eq, eq-eqb, ne_eqb, lt-ltb, le-ltb, cond-true, cond-false}
use Rattle.std.proofs.lemmas.Bool.Decides.{nat_tests}
use Rattle.media.proofs.ChunkLaws.{length-chunks, get_d_chunks, chunks-put, length-put}
use Rattle.media.specs.Memory.{chunks}
use Rattle.std.specs.List.{flat_map}
use Rattle.std.proofs.lemmas.Slice.{take-put_mid}
use Rattle.sets.specs.Sets.{has, count, rising, size}
use Rattle.sets.specs.Words.{part, over, bytes_of}
use Rattle.sets.proofs.SetLaws.{count_none, rising_none, rising-more, count-more, count-mono, has_above}
use Rattle.sets.proofs.WordLaws.{bytes-length}
use Rattle.volume.specs.Working.{image_at, contents_in, share_of, stamped, written, replaced}

-- what is no page has no image
pub image-none : (images : List ℕ) (q : ℕ) → length images ≡ 16384 → 64 ≤ q → image_at images q ≡ []
image-none images q e h = ap (take 256) (drop_all (256 * q) images (omega arith))

-- an image put into its place
module _ (images x : List ℕ) (p : ℕ) (long : length images ≡ 16384) (page : p < 64) (size : length x ≡ 256) where
  put : List ℕ
  put = put_mid (p * 256) (p * 256 + 256 - p * 256) images x

  put_is : put ≡ put_mid (256 * p) 256 images x
  unfolding put
  put_is =
      let k : p * 256 + 256 - p * 256 ≡ 256 = omega arith in
      let a : p * 256 ≡ 256 * p = omega arith in
      ap (λ n. put_mid (p * 256) n images x) k ∙ ap (λ n. put_mid n 256 images x) a

  pub put-length : length (put_mid (p * 256) (p * 256 + 256 - p * 256) images x) ≡ 16384
  unfolding put
  put-length = ap length put_is ∙ length-put (256 * p) images x (omega arith) size ∙ long

  pub put-image : (q : ℕ) → image_at (put_mid (p * 256) (p * 256 + 256 - p * 256) images x) q ≡ replaced p x (image_at images) q
  unfolding put
  put-image q = elim (cases_lt q 64) [ inl l ↦ low l | inr over ↦ high over ]
    where
      blocks : (q < 64) → image_at put q ≡ get_or (set (chunks 64 images) p x) q []
      blocks l =
          ap (λ bs. image_at bs q) put_is ∙ sym (get_d_chunks 64 (put_mid (256 * p) 256 images x) q l)
          ∙ ap (λ cs. get_or cs q []) (chunks-put 64 images p x page (omega arith) size)

      low : q < 64 → image_at put q ≡ cond (eqb q p) x (image_at images q)
      low l = blocks l ∙ elim (cases_eq q p) [
        | inl same ↦ ap (λ k. get_or (set (chunks 64 images) p x) k []) same
            ∙ get_or-set_same (chunks 64 images) p x [] (omega (arith, length-chunks 64 images))
            ∙ sym (cond-true (eqb q p) x (image_at images q) (eq-eqb q p same))
        | inr other ↦ get_or-set_other (chunks 64 images) p q x [] other ∙ get_d_chunks 64 images q l
            ∙ sym (cond-false (eqb q p) x (image_at images q) (ne_eqb q p other))
      ]

      high : 64 ≤ q → image_at put q ≡ cond (eqb q p) x (image_at images q)
      high over =
          image-none put q put-length over
          ∙ sym (cond-false (eqb q p) x (image_at images q) (ne_eqb q p (λ e. omega arith)) ∙ image-none images q long over)

-- ---- contents gathered

module _ (at : ℕ) (old front contents : List ℕ) where
  -- contents laid behind the front
  pub lifted : at + 224 ≤ length old → length contents ≡ 224 → front ≡ take at old
      → take (at + 224) (put_mid at (at + 224 - at) old contents) ≡ front ++ contents
  lifted h e f = take-put_mid at (at + 224 - at) old contents (at + 224) (omega arith) (omega arith) ∙ ap (λ x. x ++ contents) (sym f)

-- the loop: the contents of the pages below n
module _ (set' : ℕ) (images : ℕ → List ℕ) where
  abbrev pub gathered_to : ℕ → List ℕ
  gathered_to n = flat_map (λ p. contents_in (images p)) (rising (has set') n)

  pub gathered_none : gathered_to 0 ≡ []
  gathered_none = ap (flat_map (λ p. contents_in (images p))) (rising_none (has set'))

  pub gathered-more : (n : ℕ) → gathered_to (n + 1) ≡ gathered_to n ++ cond (has set' n) (contents_in (images n)) []
  gathered-more n =
      ap (flat_map (λ p. contents_in (images p))) (rising-more (has set') n) ∙ go (has set' n)
    where
      go : (t : Bool) → flat_map (λ p. contents_in (images p)) (rising (has set') n ++ cond t (n ∷ []) []) ≡ gathered_to n ++ cond t (contents_in (images n)) []
      go true = sym (flat_map_more (λ p. contents_in (images p)) [] (rising (has set') n) n)
      go false = ap (flat_map (λ p. contents_in (images p))) (append-nil (rising (has set') n)) ∙ sym (append-nil (gathered_to n))

-- ---- the place of a page's contents

has-from : (s p q : ℕ) → has (s / 2 ^ p) q ≡ has s (p + q)
unfolding has
has-from s p q = ap (λ x. eqb (x % 2) 1) (div-div-eq-div-mul s (2 ^ p) (2 ^ q) ∙ ap (λ d. s / d) (sym (pow-add 2 p q)))

count-split : (f : ℕ → Bool) (a b : ℕ) → count f (a + b) ≡ count f a + count (λ i. f (a + i)) b
count-split f a zero = let n = count_none (λ i. f (a + i)) in let z : a + 0 ≡ a = omega arith in ap (count f) z ∙ omega arith
count-split f a (suc b) =
    let one : a + suc b ≡ a + b + 1 = omega arith in
    let more = count-more (λ i. f (a + i)) b in
    let ih = count-split f a b in
    let two : suc b ≡ b + 1 = omega arith in
    ap (count f) one ∙ count-more f (a + b) ∙ (let e : count f (a + b) + cond (f (a + b)) 1 0 ≡ count f a + count (λ i. f (a + i)) (b + 1) = omega arith in e)
    ∙ ap (λ n. count f a + count (λ i. f (a + i)) n) (sym two)

count-nothing : (f : ℕ → Bool) (n : ℕ) → ((i : ℕ) → f i ≡ false) → count f n ≡ 0
count-nothing f zero none = count_none f
count-nothing f (suc n) none =
    let two : suc n ≡ n + 1 = omega arith in
    ap (count f) two ∙ count-more f n ∙ ap (λ b. count f n + cond b 1 0) (none n) ∙ (let ih = count-nothing f n none in omega arith)

-- the pages of a set are those below page p and those from it on
pub place-is : (s p : ℕ) → s < 2 ^ 64 → size s ≡ count (has s) p + size (s / 2 ^ p)
place-is s p small =
    let above = count-split (has s) 64 p in
    let from = count-split (has s) p 64 in
    let none = count-nothing (λ i. has s (64 + i)) p (λ i. has_above 64 s (64 + i) small (omega arith)) in
    let turned : count (has s) (p + 64) ≡ count (has s) (64 + p) = ap (count (has s)) (let e : p + 64 ≡ 64 + p = omega arith in e) in
    let same : count (λ i. has s (p + i)) 64 ≡ size (s / 2 ^ p) = ap (λ f. count f 64) (fun_ext (λ q. sym (has-from s p q))) in
    omega arith

-- how many pages a set has up to page p, that one included
module _ (s p : ℕ) where
  pub count-in : has s p ≡ true → count (has s) (p + 1) ≡ count (has s) p + 1
  count-in e = count-more (has s) p ∙ ap (λ t. count (has s) p + cond t 1 0) e

  pub count-out : has s p ≡ false → count (has s) (p + 1) ≡ count (has s) p
  count-out e = count-more (has s) p ∙ ap (λ t. count (has s) p + cond t 1 0) e ∙ omega arith

-- there is room for one page more of a set of at most k pages
pub room-more : (set' n k : ℕ) → n < 64 → size set' ≤ k → has set' n ≡ true → 224 * count (has set') n + 224 ≤ 224 * k
room-more set' n k l few e =
    let m = count-mono (has set') (n + 1) 64 (omega arith) in
    let s : count (has set') (n + 1) ≡ count (has set') n + 1 = count-more (has set') n ∙ ap (λ t. count (has set') n + cond t 1 0) e in
    omega arith

-- ---- new contents laid out page by page

module _ (set' n : ℕ) (new : List ℕ) (images : ℕ → List ℕ) where
  -- the images once the pages below k took theirs
  abbrev pub written_to : ℕ → ℕ → List ℕ
  written_to k q = cond (ltb q k) (written set' n new images q) (images q)

  pub written_none : (q : ℕ) → images q ≡ written_to 0 q
  written_none q = sym (cond-false (ltb q 0) (written set' n new images q) (images q) (le-ltb q 0 (omega arith)))

  -- one page more
  pub written-more : (k : ℕ) (cur next : ℕ → List ℕ) → ((q : ℕ) → cur q ≡ written_to k q)
      → ((q : ℕ) → next q ≡ cond (has set' k) (replaced k (stamped n (part (224 * count (has set') k) 224 new) (cur k)) cur q) (cur q))
      → (q : ℕ) → next q ≡ written_to (k + 1) q
  written-more k cur next h e q = e q ∙ elim (cases_eq q k) [ inl same ↦ here same | inr other ↦ there other ]
    where
      at-k : cur k ≡ images k
      at-k = h k ∙ cond-false (ltb k k) (written set' n new images k) (images k) (le-ltb k k (omega arith))

      step : (t : Bool) → has set' k ≡ t → (q : ℕ) → q ≡ k
          → cond t (replaced k (stamped n (part (224 * count (has set') k) 224 new) (cur k)) cur q) (cur q) ≡ written set' n new images k
      step true ht q same =
          cond-true (eqb q k) (stamped n (part (224 * count (has set') k) 224 new) (cur k)) (cur q) (eq-eqb q k same)
          ∙ ap (stamped n (part (224 * count (has set') k) 224 new)) at-k
          ∙ sym (cond-true (has set' k) (stamped n (share_of set' new k) (images k)) (images k) ht)
      step false ht q same = ap cur same ∙ at-k ∙ sym (cond-false (has set' k) (stamped n (share_of set' new k) (images k)) (images k) ht)

      here : q ≡ k → cond (has set' k) (replaced k (stamped n (part (224 * count (has set') k) 224 new) (cur k)) cur q) (cur q) ≡ written_to (k + 1) q
      here same =
          step (has set' k) refl q same
          ∙ ap (written set' n new images) (sym same)
          ∙ sym (cond-true (ltb q (k + 1)) (written set' n new images q) (images q) (lt-ltb q (k + 1) (omega arith)))

      out : (t : Bool) → (q ≡ k → ⊥) → cond t (replaced k (stamped n (part (224 * count (has set') k) 224 new) (cur k)) cur q) (cur q) ≡ cur q
      out true other = cond-false (eqb q k) (stamped n (part (224 * count (has set') k) 224 new) (cur k)) (cur q) (ne_eqb q k other)
      out false other = refl

      there : (q ≡ k → ⊥) → cond (has set' k) (replaced k (stamped n (part (224 * count (has set') k) 224 new) (cur k)) cur q) (cur q) ≡ written_to (k + 1) q
      there other = out (has set' k) other ∙ h q ∙ ap (λ t. cond t (written set' n new images q) (images q)) (same_test q k other)
        where
          same_test : (q k : ℕ) → (q ≡ k → ⊥) → ltb q k ≡ ltb q (k + 1)
          same_test q k ne = grind (arith, nat_tests)

  -- all pages, for a set of the 64
  pub written_all : set' < 2 ^ 64 → (cur : ℕ → List ℕ) → ((q : ℕ) → cur q ≡ written_to 64 q) → (q : ℕ) → cur q ≡ written set' n new images q
  written_all small cur h q = h q ∙ elim (cases_lt q 64) [
    | inl l ↦ cond-true (ltb q 64) (written set' n new images q) (images q) (lt-ltb q 64 l)
    | inr over ↦ cond-false (ltb q 64) (written set' n new images q) (images q) (le-ltb q 64 over)
        ∙ sym (cond-false (has set' q) (stamped n (share_of set' new q) (images q)) (images q) (has_above 64 set' q small over))
  ]

-- ---- an image with a new number and new contents

pub stamped-is : (n : ℕ) (image numbered contents : List ℕ) → length image ≡ 256 → numbered ≡ over 0 (bytes_of 4 n) image → length contents ≡ 224
    → put_mid 4 224 numbered contents ≡ stamped n contents image
stamped-is n image numbered contents e h c =
    let b = bytes-length 4 n in
    let whole : numbered ≡ bytes_of 4 n ++ drop 4 image =
    h ∙ ap₂ (λ x y. x ++ drop y image) (take_all (length image - 0) (bytes_of 4 n) (omega arith)) (let z : 0 + length (bytes_of 4 n) ≡ 4 = omega arith in z) in
    ap (λ x. put_mid 4 224 x contents) whole
    ∙ ap₂ (λ x y. x ++ (contents ++ drop 224 y)) (take_at (bytes_of 4 n) (drop 4 image) 4 b) (drop_at (bytes_of 4 n) (drop 4 image) 4 b)
    ∙ ap (λ y. bytes_of 4 n ++ (contents ++ y)) (drop-drop 224 4 image)

pub image-length : (images : List ℕ) (p : ℕ) → length images ≡ 16384 → p < 64 → length (image_at images p) ≡ 256
image-length images p e h = simp (length-take, length-drop) (omega arith)

pub contents-length : (images : List ℕ) (p : ℕ) → length images ≡ 16384 → p < 64 → length (contents_in (image_at images p)) ≡ 224
contents-length images p e h = let n = image-length images p e h in simp (length-take, length-drop) (omega arith)
