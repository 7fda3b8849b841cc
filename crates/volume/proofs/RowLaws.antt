-- The images of the 64 pages, one after another.
use Rattle.std.proofs.Common.{◌≡◌, ℕ, zero, suc, ◌+◌, ◌*◌, true, List, [], ◌∷◌, ◌++◌, length, take, sym, refl, ap, ◌∙◌, add-one, arith}
use Rattle.std.specs.List.{flat_map}
use Rattle.std.proofs.lemmas.List.{flat_map_more, take_all}
use Rattle.sets.specs.Sets.{rising}
use Rattle.sets.specs.Words.{part}
use Rattle.sets.proofs.SetLaws.{rising_none, rising-more}
use Rattle.volume.specs.Working.{image_at, in_row}

-- the row of the first n
abbrev row_to : ℕ → (ℕ → List ℕ) → List ℕ
row_to n images = flat_map images (rising (λ _. true) n)

row_more : (images : ℕ → List ℕ) (n : ℕ) → row_to (n + 1) images ≡ row_to n images ++ images n
row_more images n = ap (flat_map images) (rising-more (λ _. true) n) ∙ sym (flat_map_more images [] (rising (λ _. true) n) n)

nothing-taken : (b : ℕ) → take {A = ℕ} b [] ≡ []
nothing-taken zero = refl
nothing-taken (suc b) = refl

take_more : (a k : ℕ) (bs : List ℕ) → take (a + k) bs ≡ take a bs ++ part a k bs
take_more zero k bs = let z : 0 + k ≡ k = omega arith in ap (λ j. take j bs) z
take_more (suc a) k [] = let s : suc a + k ≡ suc (a + k) = omega arith in ap (λ j. take {A = ℕ} j []) s ∙ sym (nothing-taken k)
take_more (suc a) k (b ∷ bs) = let s : suc a + k ≡ suc (a + k) = omega arith in ap (λ j. take j (b ∷ bs)) s ∙ ap (λ t. b ∷ t) (take_more a k bs)

row-taken : (bytes : List ℕ) (n : ℕ) → row_to n (image_at bytes) ≡ take (256 * n) bytes
row-taken bytes zero = ap (flat_map (image_at bytes)) (rising_none (λ _. true))
row-taken bytes (suc n) =
    ap (λ j. row_to j (image_at bytes)) (sym (add-one n)) ∙ row_more (image_at bytes) n
    ∙ ap (λ x. x ++ image_at bytes n) (row-taken bytes n) ∙ sym (take_more (256 * n) 256 bytes) ∙ ap (λ j. take j bytes) (let e : 256 * n + 256 ≡ 256 * suc n = omega arith in e)

-- bytes for 64 images are the row of their images
pub row_back : (bytes : List ℕ) → length bytes ≡ 16384 → in_row (image_at bytes) ≡ bytes
row_back bytes l = row-taken bytes 64 ∙ take_all 16384 bytes (omega (arith, l))
