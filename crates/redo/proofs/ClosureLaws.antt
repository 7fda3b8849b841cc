-- Reach, decided by Warshall's closure: pages are let in between one after the other.
use Rattle.std.proofs.Common.{◌≡◌, ℕ, zero, suc, ◌<◌, Bool, true, false, ◌&&◌, eqb, ◌⊎◌, List, [], ◌∷◌, Decides, refl, inl, inr, arith}
use Rattle.std.proofs.lemmas.Bool.{both_ways, cases_eq, and_parts, and_from, or_cases, or_left, or_right, eqb-true, eq-eqb}
use Rattle.redo.specs.Closure.{pages_below, via}
use Rattle.redo.specs.Situations.{listed}
use Rattle.redo.specs.WriteGraph.{Operations, Arrow, Reaches, one, more}

pub listed_below : (n p : ℕ) → p < n → listed (pages_below n) p ≡ true
unfolding listed pages_below
listed_below zero p l = absurd (omega arith)
listed_below (suc n) p l = elim (cases_eq p n) [
  | inl same ↦ or_left (eqb p n) (listed (pages_below n) p) (eq-eqb p n same)
  | inr other ↦ or_right (eqb p n) (listed (pages_below n) p) (listed_below n p (omega arith))
]

module _ (r : ℕ → ℕ → Bool) where
  pub via-step : (ks : List ℕ) (a b : ℕ) → r a b ≡ true → via r ks a b ≡ true
  unfolding via
  via-step [] a b e = e
  via-step (k ∷ ks) a b e = or_left (via r ks a b) (via r ks a k && via r ks k b) (via-step ks a b e)

  via-to : (k : ℕ) (ks : List ℕ) (a : ℕ) → via r (k ∷ ks) a k ≡ true → via r ks a k ≡ true
  unfolding via
  via-to k ks a e = elim (or_cases (via r ks a k) (via r ks a k && via r ks k k) e) [ inl x ↦ x | inr x ↦ (and_parts (via r ks a k) (via r ks k k) x).0 ]

  via-from : (k : ℕ) (ks : List ℕ) (b : ℕ) → via r (k ∷ ks) k b ≡ true → via r ks k b ≡ true
  unfolding via
  via-from k ks b e = elim (or_cases (via r ks k b) (via r ks k k && via r ks k b) e) [ inl x ↦ x | inr x ↦ (and_parts (via r ks k k) (via r ks k b) x).1 ]

  pub via-trans : (ks : List ℕ) (a x b : ℕ) → listed ks x ≡ true → via r ks a x ≡ true → via r ks x b ≡ true → via r ks a b ≡ true
  unfolding via listed
  via-trans [] a x b l p q = absurd (both_ways false refl l)
  via-trans (k ∷ ks) a x b l p q = elim (or_cases (eqb x k) (listed ks x) l) [
    | inl same ↦
        let e = eqb-true x k same in
        let to : via r (k ∷ ks) a k ≡ true = rw e at p in
        let from : via r (k ∷ ks) k b ≡ true = rw e at q in
        through (via-to k ks a to) (via-from k ks b from)
    | inr below ↦ go (via-trans ks a x b below) (via-trans ks a x k below) (via-trans ks k x b below)
        (or_cases (via r ks a x) (via r ks a k && via r ks k x) p) (or_cases (via r ks x b) (via r ks x k && via r ks k b) q)
  ]
    where
      through : via r ks a k ≡ true → via r ks k b ≡ true → via r (k ∷ ks) a b ≡ true
      through s t = or_right (via r ks a b) (via r ks a k && via r ks k b) (and_from (via r ks a k) (via r ks k b) s t)

      go : (via r ks a x ≡ true → via r ks x b ≡ true → via r ks a b ≡ true)
          → (via r ks a x ≡ true → via r ks x k ≡ true → via r ks a k ≡ true)
          → (via r ks k x ≡ true → via r ks x b ≡ true → via r ks k b ≡ true)
          → (via r ks a x ≡ true) ⊎ ((via r ks a k && via r ks k x) ≡ true)
          → (via r ks x b ≡ true) ⊎ ((via r ks x k && via r ks k b) ≡ true)
          → via r (k ∷ ks) a b ≡ true
      go ab ak kb (inl s) (inl t) = or_left (via r ks a b) (via r ks a k && via r ks k b) (ab s t)
      go ab ak kb (inl s) (inr t) = let u = and_parts (via r ks x k) (via r ks k b) t in through (ak s u.0) u.1
      go ab ak kb (inr s) (inl t) = let u = and_parts (via r ks a k) (via r ks k x) s in through u.0 (kb u.1 t)
      go ab ak kb (inr s) (inr t) = through (and_parts (via r ks a k) (via r ks k x) s).0 (and_parts (via r ks x k) (via r ks k b) t).1

-- a test r that decides the arrows of d, all of which lead to pages of the list
module _ (d : Operations) (r : ℕ → ℕ → Bool) (decides : (a b : ℕ) → Decides (r a b) (Arrow d a b)) where
  pub via-reaches : (ks : List ℕ) (a b : ℕ) → via r ks a b ≡ true → Reaches d a b
  unfolding via
  via-reaches [] a b e = one ((decides a b).0 e)
  via-reaches (k ∷ ks) a b e = elim (or_cases (via r ks a b) (via r ks a k && via r ks k b) e) [
    | inl x ↦ via-reaches ks a b x
    | inr x ↦ let u = and_parts (via r ks a k) (via r ks k b) x in join (via-reaches ks a k u.0) (via-reaches ks k b u.1)
  ]
    where
      join : {a b c : ℕ} → Reaches d a b → Reaches d b c → Reaches d a c
      join (one ar) s = more ar s
      join (more ar t) s = more ar (join t s)

  module _ (ks : List ℕ) (inside : (a b : ℕ) → Arrow d a b → listed ks b ≡ true) where
    pub reaches-via : {a b : ℕ} → Reaches d a b → via r ks a b ≡ true
    reaches-via (one {a = a} {b = b} ar) = via-step r ks a b ((decides a b).1 ar)
    reaches-via (more {a = a} {b = b} {c = c} ar s) = via-trans r ks a b c (inside a b ar) (via-step r ks a b ((decides a b).1 ar)) (reaches-via s)

    pub via-decides : (a b : ℕ) → Decides (via r ks a b) (Reaches d a b)
    via-decides a b = (via-reaches ks a b, λ s. reaches-via s)
