-- The pages that pass a test, rising, where none, one or two pass it, and the contents that stand for them.
use Rattle.std.proofs.Common.{◌≡◌, ℕ, zero, suc, ◌+◌, ◌*◌, ◌<◌, ◌≤◌, Bool, true, false, cond, List, [], ◌∷◌, ◌++◌, length, take, drop, sym, ap, ◌∙◌, ap₂, inl, inr, mul-suc, arith}
use Rattle.std.specs.List.{flat_map}
use Rattle.std.proofs.lemmas.List.{length-append, append-nil, take_all, take_at, drop_at}
use Rattle.std.proofs.lemmas.Bool.{cases_lt}
use Rattle.sets.specs.Sets.{count, rising}
use Rattle.sets.specs.Words.{part}
use Rattle.sets.proofs.SetLaws.{rising_none, rising-count}

-- pages that do not pass
pub rising-gap : (f : ℕ → Bool) (m n : ℕ) → m ≤ n → ((q : ℕ) → m ≤ q → q < n → f q ≡ false) → rising f n ≡ rising f m
unfolding rising
rising-gap f m zero le out = let z : m ≡ 0 = omega arith in ap (rising f) (sym z)
rising-gap f m (suc n) le out = elim (cases_lt m (suc n)) [
  | inl l ↦ ap (λ b. rising f n ++ cond b (n ∷ []) []) (out n (omega arith) (omega arith)) ∙ append-nil (rising f n) ∙ rising-gap f m n (omega arith) (λ q a b. out q a (omega arith))
  | inr g ↦ let z : m ≡ suc n = omega arith in ap (rising f) (sym z)
]

pub count-gap : (f : ℕ → Bool) (m n : ℕ) → m ≤ n → ((q : ℕ) → m ≤ q → q < n → f q ≡ false) → count f n ≡ count f m
count-gap f m n le out = sym (rising-count f n) ∙ ap length (rising-gap f m n le out) ∙ rising-count f m

-- a page that passes
pub rising-at : (f : ℕ → Bool) (p : ℕ) → f p ≡ true → rising f (suc p) ≡ rising f p ++ (p ∷ [])
unfolding rising
rising-at f p e = ap (λ b. rising f p ++ cond b (p ∷ []) []) e

-- none passes
pub none-rising : (f : ℕ → Bool) (n : ℕ) → ((q : ℕ) → q < n → f q ≡ false) → rising f n ≡ []
none-rising f n out = rising-gap f 0 n (omega arith) (λ q _ l. out q l) ∙ rising_none f

pub none-count : (f : ℕ → Bool) (n : ℕ) → ((q : ℕ) → q < n → f q ≡ false) → count f n ≡ 0
none-count f n out = sym (rising-count f n) ∙ ap length (none-rising f n out)

-- page p alone passes
pub record One (f : ℕ → Bool) (p : ℕ) : Type 0 where
  pub inside : p < 64
  pub here : f p ≡ true
  pub others : (q : ℕ) → (q ≡ p → ⊥) → f q ≡ false

pub one-count : (f : ℕ → Bool) (p : ℕ) → One f p → count f p ≡ 0
one-count f p o = none-count f p (λ q l. o.others q (λ e. omega arith))

pub one-rising : (f : ℕ → Bool) (p : ℕ) → One f p → rising f 64 ≡ p ∷ []
one-rising f p o =
    rising-gap f (suc p) 64 (omega arith) (λ q l _. o.others q (λ e. omega arith))
    ∙ rising-at f p o.here
    ∙ ap (λ xs. xs ++ (p ∷ [])) (none-rising f p (λ q l. o.others q (λ e. omega arith)))

-- two pages pass, and no other
pub record Two (f : ℕ → Bool) (low high : ℕ) : Type 0 where
  pub apart : low < high
  pub inside : high < 64
  pub lower : f low ≡ true
  pub higher : f high ≡ true
  pub others : (q : ℕ) → (q ≡ low → ⊥) → (q ≡ high → ⊥) → f q ≡ false

module _ (f : ℕ → Bool) (low high : ℕ) (t : Two f low high) where
  before : rising f high ≡ low ∷ []
  before =
      let apart = t.apart in
      rising-gap f (suc low) high (omega arith) (λ q l g. t.others q (λ e. omega arith) (λ e. omega arith))
      ∙ rising-at f low t.lower
      ∙ ap (λ xs. xs ++ (low ∷ [])) (none-rising f low (λ q l. t.others q (λ e. omega arith) (λ e. omega arith)))

  pub two-low : count f low ≡ 0
  two-low = let apart = t.apart in none-count f low (λ q l. t.others q (λ e. omega arith) (λ e. omega arith))

  pub two-high : count f high ≡ 1
  two-high = sym (rising-count f high) ∙ ap length before

  pub two-rising : rising f 64 ≡ low ∷ high ∷ []
  two-rising =
      let apart = t.apart in
      let inside = t.inside in
      rising-gap f (suc high) 64 (omega arith) (λ q l _. t.others q (λ e. omega arith) (λ e. omega arith))
      ∙ rising-at f high t.higher
      ∙ ap (λ xs. xs ++ (high ∷ [])) before

-- ---- contents one after another, k bytes each

pub joined_length : (k : ℕ) (g : ℕ → List ℕ) (ps : List ℕ) → ((q : ℕ) → length (g q) ≡ k) → length (flat_map g ps) ≡ k * length ps
joined_length k g [] sized = omega arith
joined_length k g (p ∷ ps) sized = length-append (g p) (flat_map g ps) ∙ ap₂ ◌+◌ (sized p) (joined_length k g ps sized) ∙ more k (length ps)
  where
    more : (k n : ℕ) → k + k * n ≡ k * suc n
    more k n = omega (arith, mul-suc k n)

pub part-all : (k : ℕ) (x : List ℕ) → length x ≡ k → part 0 k x ≡ x
part-all k x e = take_all k x (omega arith)

pub part-first : (k : ℕ) (x y : List ℕ) → length x ≡ k → part 0 k (x ++ y) ≡ x
part-first k x y e = take_at x y k e

pub part-second : (k : ℕ) (x y : List ℕ) → length x ≡ k → length y ≡ k → part k k (x ++ y) ≡ y
part-second k x y ex ey = ap (take k) (drop_at x y k ex) ∙ take_all k y (omega arith)

-- two of them exchanged
pub turned : (k : ℕ) (x y : List ℕ) → length x ≡ k → drop k (x ++ (y ++ [])) ++ take k (x ++ (y ++ [])) ≡ y ++ x
turned k x y e = ap₂ ◌++◌ (drop_at x (y ++ []) k e ∙ append-nil y) (take_at x (y ++ []) k e)
