-- Where reading a log ends.
use Rattle.std.proofs.Common.{◌≡◌, ℕ, zero, suc, ◌+◌, Bool, Some, None, Option, unwrap_or, sym, ◌<◌, ◌≤◌, inl, inr, true, false, cond, not, ◌&&◌, eqb, refl, ap, ◌∙◌, arith}
use Rattle.std.specs.List.{find, range_with_len}
use Rattle.std.specs.Option.{option_map}
use Rattle.std.proofs.lemmas.Bool.{cases_lt, eq-eqb, ne_eqb, cond-false, and_right, and_left, not_from_true}
use Rattle.media.specs.Media.{Device}
use Rattle.volume.specs.LogReading.{bears, last_number, end_of}

pub end_none : (m : Device) (n : ℕ) → end_of m n 0 ≡ n
unfolding end_of
end_none m n = refl

module _ (m : Device) (n k j : ℕ) (one : j ≡ k + 1) where
  step : end_of m n j ≡ cond (not (eqb n last_number) && bears m n) (end_of m (n + 1) k) n
  unfolding end_of
  step = let e : j ≡ suc k = omega arith in ap (end_of m n) e

  pub end_last : n ≡ 4294967295 → end_of m n j ≡ n
  end_last e = step ∙ cond-false (not (eqb n last_number) && bears m n) (end_of m (n + 1) k) n (and_left (not (eqb n last_number)) (bears m n) (not_from_true (eqb n last_number) (eq-eqb n last_number e)))

  pub end_here : bears m n ≡ false → end_of m n j ≡ n
  end_here e = step ∙ cond-false (not (eqb n last_number) && bears m n) (end_of m (n + 1) k) n (and_right (not (eqb n last_number)) (bears m n) e)

  pub end_on : (n ≡ 4294967295 → ⊥) → bears m n ≡ true → end_of m n j ≡ end_of m (n + 1) k
  end_on ne e = step ∙ ap (λ t. cond (not t && bears m n) (end_of m (n + 1) k) n) (ne_eqb n last_number ne) ∙ ap (λ t. cond t (end_of m (n + 1) k) n) e

-- at the last number, or with nothing left to read
pub end_full : (m : Device) (n k : ℕ) → (n < 4294967295 → k ≡ 0) → n ≤ 4294967295 → end_of m n k ≡ n
end_full m n zero h s = end_none m n
end_full m n (suc k) h s =
    let e : suc k ≡ k + 1 = omega arith in
    let top : n ≡ 4294967295 = elim (cases_lt n 4294967295) [ inl l ↦ absurd (let z : suc k ≡ 0 = h l in omega arith) | inr over ↦ omega arith ] in
    end_last m n k (suc k) e top

-- what a search over numbers found, as the lemma on searches says it
pub found-as : (o : Option ℕ) → o ≡ option_map (λ x. x) o
found-as None = refl
found-as (Some x) = refl

-- the first of k numbers from n on whose block does not bear it, or the number behind them
pub end_found : (m : Device) (n k j : ℕ) → (n + k < 4294967295 → j ≡ 0) → n + k ≤ 4294967295
    → unwrap_or (find (λ i. not (bears m i)) (range_with_len n k)) (n + k) ≡ end_of m n (k + j)
end_found m n zero j h s =
    let z : n + 0 ≡ n = omega arith in
    let y : j ≡ 0 + j = omega arith in
    z ∙ sym (end_full m n j (λ l. h (omega arith)) (omega arith)) ∙ ap (end_of m n) y
end_found m n (suc k) j h s = go (end_found m (n + 1) k j (λ l. h (omega arith)) (omega arith)) (bears m n) refl
  where
    go : unwrap_or (find (λ i. not (bears m i)) (range_with_len (n + 1) k)) (n + 1 + k) ≡ end_of m (n + 1) (k + j)
        → (b : Bool) → bears m n ≡ b → unwrap_or (cond (not b) (Some n) (find (λ i. not (bears m i)) (range_with_len (n + 1) k))) (n + suc k) ≡ end_of m n (suc k + j)
    go rest true e =
        let behind : n + suc k ≡ n + 1 + k = omega arith in
        ap (unwrap_or (find (λ i. not (bears m i)) (range_with_len (n + 1) k))) behind ∙ rest
        ∙ sym (end_on m n (k + j) (suc k + j) (omega arith) (λ top. omega arith) e)
    go rest false e = sym (end_here m n (k + j) (suc k + j) (omega arith) e)
