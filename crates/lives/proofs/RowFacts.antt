-- Images one after another, and what a store keeps of an image.
use Rattle.std.proofs.Common.{◌≡◌, ℕ, zero, suc, ◌+◌, ◌-◌, ◌*◌, ◌<◌, ◌≤◌, true, ◌⊎◌, List, [], ◌++◌, length, take, drop, replicate, sym, refl, ap, ◌∙◌, inl, inr, arith}
use Rattle.std.specs.List.{flat_map}
use Rattle.std.proofs.lemmas.List.{length-append, length-take, length-drop, drop_at, drop-append-le, take-append-le, take_all, take-take, drop-take, flat_map_more}
use Rattle.std.proofs.lemmas.Bool.{cases_eq}
use Rattle.sets.specs.Sets.{rising}
use Rattle.sets.specs.Words.{number}
use Rattle.stores.specs.Images.{image_of, pictured}
use Rattle.volume.specs.Working.{contents_in, number_of, in_row}
use Rattle.volume.specs.Surviving.{page_of}

row : (ℕ → List ℕ) → ℕ → List ℕ
row images n = flat_map images (rising (λ _. true) n)

row_more : (images : ℕ → List ℕ) (n : ℕ) → row images (suc n) ≡ row images n ++ images n
unfolding rising row
row_more images n = sym (flat_map_more images [] (rising (λ _. true) n) n)

row-none : (images : ℕ → List ℕ) → row images 0 ≡ []
unfolding rising row
row-none images = refl

row-length : (images : ℕ → List ℕ) (n : ℕ) → ((p : ℕ) → p < n → length (images p) ≡ 256) → length (row images n) ≡ 256 * n
row-length images zero all = ap length (row-none images)
row-length images (suc n) all =
    let ih = row-length images n (λ p l. all p (omega arith)) in
    let e = ap length (row_more images n) ∙ length-append (row images n) (images n) in
    let l = all n (omega arith) in
    omega arith

row_at : (images : ℕ → List ℕ) (n p : ℕ) → ((q : ℕ) → q < n → length (images q) ≡ 256) → p < n → take 256 (drop (256 * p) (row images n)) ≡ images p
row_at images zero p all l = absurd (omega arith)
row_at images (suc n) p all l = go (cases_eq p n) (row_at images n p (λ q m. all q (omega arith)))
  where
    len : length (row images n) ≡ 256 * n
    len = row-length images n (λ q m. all q (omega arith))

    at : (a c : ℕ) → a ≡ 256 → c ≡ 256 * p → p < n → take a (drop c (row images n ++ images n)) ≡ take a (drop c (row images n))
    at a c ea ec less =
        ap (take a) (drop-append-le c (row images n) (images n) (omega (arith, len)))
        ∙ take-append-le a (drop c (row images n)) (images n) (omega (arith, len, length-drop c (row images n)))

    here : (a c : ℕ) → a ≡ 256 → c ≡ 256 * p → p ≡ n → take a (drop c (row images n ++ images n)) ≡ images p
    here a c ea ec same =
        ap (take a) (drop_at (row images n) (images n) c (let s = len in omega arith))
        ∙ take_all a (images n) (let s = all n (omega arith) in omega arith) ∙ ap images (sym same)

    go : (p ≡ n) ⊎ (p ≡ n → ⊥) → (p < n → take 256 (drop (256 * p) (row images n)) ≡ images p) → take 256 (drop (256 * p) (row images (suc n))) ≡ images p
    go (inl same) ih = ap (λ (xs : List ℕ). take 256 (drop (256 * p) xs)) (row_more images n) ∙ here 256 (256 * p) refl refl same
    go (inr other) ih = ap (λ (xs : List ℕ). take 256 (drop (256 * p) xs)) (row_more images n) ∙ at 256 (256 * p) refl refl (omega arith) ∙ ih (omega arith)

pub in_row_length : (images : ℕ → List ℕ) → ((p : ℕ) → p < 64 → length (images p) ≡ 256) → length (in_row images) ≡ 16384
unfolding row
in_row_length images all = row-length images 64 all

pub pictured-row : (images : ℕ → List ℕ) (p : ℕ) → ((q : ℕ) → q < 64 → length (images q) ≡ 256) → p < 64 → pictured (in_row images) p ≡ image_of (images p)
unfolding row
pictured-row images p all l = ap image_of (row_at images 64 p all l)

pub image-of_length : (x : List ℕ) → length x ≡ 256 → length (image_of x) ≡ 256
image-of_length x l = simp (length-append, length-take) (omega arith)

-- what a store keeps of an image is its page
pub image-of_page : (x : List ℕ) → length x ≡ 256 → page_of (image_of x) ≡ page_of x
image-of_page x l = λ i. record { contents = mid i; number = num i }
  where
    go : (a b c d : ℕ) (z : List ℕ) → c ≡ a + b → d ≡ 228 → c ≤ d → take b (drop a (take d x ++ z)) ≡ take b (drop a x)
    go a b c d z ec ed le =
        let t = length-take d x in
        let e : a + (d - a) ≡ d = omega arith in
        ap (take b) (drop-append-le a (take d x) z (omega arith))
        ∙ take-append-le b (drop a (take d x)) z (let s = length-drop a (take d x) in omega arith)
        ∙ ap (λ j. take b (drop a (take j x))) (sym e)
        ∙ ap (take b) (drop-take a (d - a) x)
        ∙ take-take b (d - a) (drop a x) (omega arith)

    mid : contents_in (image_of x) ≡ contents_in x
    mid = go 4 224 228 228 (replicate 28 0) refl refl (omega arith)

    num : number_of (image_of x) ≡ number_of x
    num = ap number (go 0 4 4 228 (replicate 28 0) refl refl (omega arith))
