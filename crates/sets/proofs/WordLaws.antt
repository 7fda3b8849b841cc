-- The laws of numbers in bytes.
use Rattle.std.proofs.Common.{◌≡◌, ℕ, zero, suc, ◌+◌, ◌-◌, ◌*◌, ◌/◌, ◌%◌, ◌^◌, ◌<◌, min, List, [], ◌∷◌, ◌++◌, length, get_or, take, drop, replicate, refl, ap, ◌∙◌, ap₂, pow-suc, arith}
use Rattle.std.specs.List.{AllByRecursion}
use Rattle.std.proofs.lemmas.Grind.{common_steps}
use Rattle.std.proofs.lemmas.List.{drop-replicate}
use Rattle.sets.specs.Words.{number, bytes_of, part}

-- zeros at the high end add nothing
pub number-zeros : (xs : List ℕ) (k : ℕ) → number (xs ++ replicate k 0) ≡ number xs
number-zeros [] zero = refl
number-zeros [] (suc k) = let e = number-zeros [] k in omega arith
number-zeros (x ∷ xs) k = ap (λ n. x + 256 * n) (number-zeros xs k)

-- the sums by which the machine reads four and eight bytes
pub number-four : (w : List ℕ) → length w ≡ 4 → get_or w 0 0 + get_or w 1 0 * 256 + get_or w 2 0 * 65536 + get_or w 3 0 * 16777216 ≡ number w
number-four (a ∷ (b ∷ (c ∷ (d ∷ [])))) e = omega arith
number-four [] e = absurd (omega arith)
number-four (a ∷ []) e = absurd (omega arith)
number-four (a ∷ (b ∷ [])) e = absurd (omega arith)
number-four (a ∷ (b ∷ (c ∷ []))) e = absurd (omega arith)
number-four (a ∷ (b ∷ (c ∷ (d ∷ (x ∷ xs))))) e = absurd (omega arith)

pub number-eight : (w : List ℕ) → length w ≡ 8 → get_or w 0 0 + get_or w 1 0 * 256 + get_or w 2 0 * 65536 + get_or w 3 0 * 16777216 + get_or w 4 0 * 4294967296 + get_or w 5 0 * 1099511627776 + get_or w 6 0 * 281474976710656 + get_or w 7 0 * 72057594037927936 ≡ number w
number-eight (a ∷ (b ∷ (c ∷ (d ∷ w)))) e = let high = number-four w (omega arith) in omega arith
number-eight [] e = absurd (omega arith)
number-eight (a ∷ []) e = absurd (omega arith)
number-eight (a ∷ (b ∷ [])) e = absurd (omega arith)
number-eight (a ∷ (b ∷ (c ∷ []))) e = absurd (omega arith)

-- a word of k bytes at place `at`: it begins at `from`, and n bytes of it lie in the slice
module _ (k at from n : ℕ) (bs : List ℕ) (start : from ≡ min at (length bs)) (few : n ≡ min k (length bs - at)) where
  -- the part that is read
  read_part : take (from + n - from) (drop from bs) ≡ part at k bs
  read_part = grind (arith, common_steps)

  -- the word as it stands in an array of zeros
  pub read_word : (w : List ℕ) → w ≡ take (from + n - from) (drop from bs) → number (w ++ drop (n - 0) (replicate k 0)) ≡ number (part at k bs)
  read_word w e = ap number (ap₂ ◌++◌ (e ∙ read_part) (drop-replicate (n - 0) k 0)) ∙ number-zeros (part at k bs) (k - (n - 0))

pub bytes-length : (n x : ℕ) → length (bytes_of n x) ≡ n
bytes-length zero x = refl
bytes-length (suc n) x = ap suc (bytes-length n (x / 256))

-- a number of n bytes reads back as itself
pub number-bytes : (n x : ℕ) → x < 256 ^ n → number (bytes_of n x) ≡ x
number-bytes zero x h = omega arith
number-bytes (suc n) x h =
    let p = pow-suc 256 n in
    let ih = number-bytes n (x / 256) (omega arith) in
    omega arith

-- bytes are those of their number
pub bytes-number : (n : ℕ) (bs : List ℕ) → length bs ≡ n → AllByRecursion (λ b. b < 256) bs → bytes_of n (number bs) ≡ bs
bytes-number zero [] e a = refl
bytes-number zero (b ∷ bs) e a = absurd (omega arith)
bytes-number (suc n) [] e a = absurd (omega arith)
bytes-number (suc n) (b ∷ bs) e a =
    let l : b < 256 = a.0 in
    let low : (b + 256 * number bs) % 256 ≡ b = omega arith in
    let high : (b + 256 * number bs) / 256 ≡ number bs = omega arith in
    ap₂ ◌∷◌ low (ap (bytes_of n) high ∙ bytes-number n bs (omega arith) a.1)
