-- Lists of blocks that wait, and of numbers that rise.
use Rattle.std.proofs.Common.{◌≡◌, ℕ, zero, suc, ◌+◌, ◌-◌, ◌<◌, ◌≤◌, Bool, true, false, cond, ◌⊎◌, List, [], ◌∷◌, ◌++◌, length, get_or, sym, refl, ap, ◌∙◌, subst, inl, inr, arith}
use Rattle.std.proofs.lemmas.Bool.{both_ways, cases_eq, cases_lt}
use Rattle.std.specs.List.{AllByRecursion}
use Rattle.sets.specs.Sets.{count, rising}
use Rattle.sets.proofs.SetLaws.{rising-all}
use Rattle.lives.proofs.Keeping.{Waits}

pub waits-like : (g g' : ℕ → List ℕ) (n : ℕ) (ws : List (List ℕ)) (m : ℕ) → ((i : ℕ) → m ≤ i → i < n → g i ≡ g' i) → m ≤ n → Waits g n ws m → (Waits g' n ws m) × (m + length ws ≡ n)
waits-like g g' n [] m same le w = (w, omega arith)
waits-like g g' n (b ∷ ws) m same le w =
    let lt : m < n = waits-more g n ws (suc m) w.1 in
    let ih = waits-like g g' n ws (suc m) (λ i a c. same i (omega arith) c) (omega arith) w.1 in
    ((w.0 ∙ same m (omega arith) lt, ih.0), omega (arith, ih.1))
  where
    waits-more : (g : ℕ → List ℕ) (n : ℕ) (ws : List (List ℕ)) (m : ℕ) → Waits g n ws m → m ≤ n
    waits-more g n [] m w = omega arith
    waits-more g n (b ∷ ws) m w = let r = waits-more g n ws (suc m) w.1 in omega arith

pub waits-length : (g : ℕ → List ℕ) (n : ℕ) (ws : List (List ℕ)) (m : ℕ) → Waits g n ws m → m + length ws ≡ n
waits-length g n [] m w = omega arith
waits-length g n (b ∷ ws) m w = omega (arith, waits-length g n ws (suc m) w.1)

-- one more waits
pub waits-push : (g : ℕ → List ℕ) (n : ℕ) (ws : List (List ℕ)) (m : ℕ) (b : List ℕ) → b ≡ g n → Waits g n ws m → Waits g (suc n) (ws ++ b ∷ []) m
waits-push g n [] m b e w = (e ∙ ap g (sym w), ap suc w)
waits-push g n (c ∷ ws) m b e w = (w.0, waits-push g n ws (suc m) b e w.1)

-- those that pass a test that none below t passes are few
pub count-from : (f : ℕ → Bool) (t n : ℕ) → ((m : ℕ) → m < t → f m ≡ false) → count f n ≤ n - t
unfolding count
count-from f t zero none = omega arith
count-from f t (suc n) none = go (count-from f t n none) (cases_lt n t) (f n) refl
  where
    go : count f n ≤ n - t → (n < t) ⊎ (t ≤ n) → (b : Bool) → f n ≡ b → count f n + cond b 1 0 ≤ suc n - t
    go ih (inl l) true e = absurd (both_ways (f n) (none n l) e)
    go ih (inr g) true e = omega arith
    go ih x false e = omega arith

-- the first of a rising list: none below it passes, and it does
pub record Lowest (f : ℕ → Bool) (n x : ℕ) : Type 0 where
  pub within : x ≤ n
  pub none_below : (m : ℕ) → m < x → f m ≡ false
  pub passes : x < n → f x ≡ true

pub rising-first : (f : ℕ → Bool) (n : ℕ) → Lowest f n (get_or (rising f n) 0 n)
unfolding rising
rising-first f zero = record { within = omega arith; none_below = λ m l. absurd (omega arith); passes = λ l. absurd (omega arith) }
rising-first f (suc n) = go (rising f n) refl (rising-first f n) (f n) refl
  where
    go : (xs : List ℕ) → rising f n ≡ xs → Lowest f n (get_or xs 0 n) → (b : Bool) → f n ≡ b → Lowest f (suc n) (get_or (xs ++ cond b (n ∷ []) []) 0 (suc n))
    go [] e ih true en = record { within = omega arith; none_below = ih.none_below; passes = λ l. en }
    go [] e ih false en = record {
      within = omega arith;
      none_below = λ m l. elim (cases_eq m n) [ inl same ↦ ap f same ∙ en | inr other ↦ ih.none_below m (omega arith) ];
      passes = λ l. absurd (omega arith);
    }
    go (x ∷ xs) e ih b en = record {
      within = let w = ih.within in omega arith;
      none_below = ih.none_below;
      passes = λ l. (subst (AllByRecursion (λ p. (p < n) × (f p ≡ true))) e (rising-all f n)).0.1;
    }
