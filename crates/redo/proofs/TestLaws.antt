-- Tests over all numbers below a bound.
use Rattle.std.proofs.Common.{◌≡◌, ℕ, zero, suc, ◌<◌, Bool, true, false, cond, ◌⊎◌, List, [], ◌∷◌, ◌++◌, sym, refl, ap, ◌∙◌, ap₂, inl, inr, arith}
use Rattle.std.proofs.lemmas.Bool.{both_ways, cases_eq, and_parts, and_from, or_cases, or_left, or_right}
use Rattle.sets.specs.Sets.{rising}
use Rattle.redo.specs.Recovery.{every, some}

pub every-from : (n : ℕ) (f : ℕ → Bool) → ((k : ℕ) → k < n → f k ≡ true) → every n f ≡ true
unfolding every
every-from zero f all = refl
every-from (suc n) f all = and_from (f n) (every n f) (all n (omega arith)) (every-from n f (λ k l. all k (omega arith)))

pub every-at : (n : ℕ) (f : ℕ → Bool) (k : ℕ) → every n f ≡ true → k < n → f k ≡ true
unfolding every
every-at zero f k e l = absurd (omega arith)
every-at (suc n) f k e l =
    let both = and_parts (f n) (every n f) e in
    elim (cases_eq k n) [ inl same ↦ rw same both.0 | inr other ↦ every-at n f k both.1 (omega arith) ]

pub some-from : (n : ℕ) (f : ℕ → Bool) (k : ℕ) → k < n → f k ≡ true → some n f ≡ true
unfolding some
some-from zero f k l e = absurd (omega arith)
some-from (suc n) f k l e = elim (cases_eq k n) [
  | inl same ↦ or_left (f n) (some n f) (let s : n ≡ k = sym same in rw s e)
  | inr other ↦ or_right (f n) (some n f) (some-from n f k (omega arith) e)
]

pub some_at : (n : ℕ) (f : ℕ → Bool) → some n f ≡ true → (k : ℕ) × (k < n) × (f k ≡ true)
unfolding some
some_at zero f e = absurd (both_ways false refl e)
some_at (suc n) f e = elim (or_cases (f n) (some n f) e) [
  | inl here ↦ (n, omega arith, here)
  | inr below ↦ let k = some_at n f below in (k.0, omega (arith, k.1), k.2)
]

-- tests that agree below n list the same numbers
pub rising-like : (f g : ℕ → Bool) (n : ℕ) → ((k : ℕ) → k < n → f k ≡ g k) → rising f n ≡ rising g n
unfolding rising
rising-like f g zero same = refl
rising-like f g (suc n) same = ap₂ (λ (xs : List ℕ) (b : Bool). xs ++ cond b (n ∷ []) []) (rising-like f g n (λ k l. same k (omega arith))) (same n (omega arith))

-- the first number below n that passes a test, if there is one
pub least : (f : ℕ → Bool) (n : ℕ) → ((k : ℕ) → k < n → f k ≡ false) ⊎ ((m : ℕ) × (m < n) × (f m ≡ true) × ((k : ℕ) → k < m → f k ≡ false))
least f zero = inl (λ k l. absurd (omega arith))
least f (suc n) = go (least f n) (f n) refl
  where
    go : ((k : ℕ) → k < n → f k ≡ false) ⊎ ((m : ℕ) × (m < n) × (f m ≡ true) × ((k : ℕ) → k < m → f k ≡ false))
        → (b : Bool) → f n ≡ b
        → ((k : ℕ) → k < suc n → f k ≡ false) ⊎ ((m : ℕ) × (m < suc n) × (f m ≡ true) × ((k : ℕ) → k < m → f k ≡ false))
    go (inr (m, l, hit, none)) b e = inr (m, omega arith, hit, none)
    go (inl none) true e = inr (n, omega arith, e, none)
    go (inl none) false e = inl (λ k l. elim (cases_eq k n) [ inl same ↦ ap f same ∙ e | inr other ↦ none k (omega arith) ])
