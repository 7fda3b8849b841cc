-- What operations give in order, and the page that the last of a set of them left.
use Rattle.std.proofs.Common.{◌≡◌, ℕ, zero, suc, ◌<◌, ◌≤◌, Bool, true, false, ◌&&◌, leb, ◌⊎◌, List, Some, sym, refl, ap, ◌∙◌, inl, inr, arith}
use Rattle.std.proofs.lemmas.Bool.{both_ways, cond-true, cond-false, cases_lt, cases_eq, and_parts, and_from, and_left, and_right, leb-true}
use Rattle.redo.specs.Histories.{Page, History, reads, writes, effect_on, renewed, run, after, image, Ran}

module _ (h : History) where
  -- an operation that touches a page bears a number from the first on
  pub writes-from : (m p : ℕ) → writes h m p ≡ true → h.first ≤ m
  writes-from m p e = leb-true h.first m (and_parts (leb h.first m) ((h.operation m).writes p) e).0

  pub reads-from : (m p : ℕ) → reads h m p ≡ true → h.first ≤ m
  reads-from m p e = leb-true h.first m (and_parts (leb h.first m) ((h.operation m).reads p) e).0

  pub after-suc : (m : ℕ) → after h (suc m) ≡ run h m (after h m)
  unfolding after
  after-suc m = refl

  pub after-unwritten : (m p : ℕ) → writes h m p ≡ false → after h (suc m) p ≡ after h m p
  unfolding after
  after-unwritten m p e = cond-false (writes h m p) (renewed (effect_on h m (after h m)) m p (after h m p)) (after h m p) e

  pub run-written : (m p : ℕ) (w : ℕ → Page) (new : ℕ → List ℕ) → writes h m p ≡ true → effect_on h m w ≡ Some new
      → run h m w p ≡ record { contents = new p; number = m }
  run-written m p w new e ok =
      cond-true (writes h m p) (renewed (effect_on h m w) m p (w p)) (w p) e ∙ ap (λ x. renewed x m p (w p)) ok

  pub run-unwritten : (m p : ℕ) (w : ℕ → Page) → writes h m p ≡ false → run h m w p ≡ w p
  run-unwritten m p w e = cond-false (writes h m p) (renewed (effect_on h m w) m p (w p)) (w p) e

  pub image-hit : (I : ℕ → Bool) (m p : ℕ) → I m ≡ true → writes h m p ≡ true → image h I (suc m) p ≡ after h (suc m) p
  unfolding image
  image-hit I m p i e = cond-true (I m && writes h m p) (after h (suc m) p) (image h I m p) (and_from (I m) (writes h m p) i e)

  pub image-skip : (I : ℕ → Bool) (m p : ℕ) → (I m && writes h m p) ≡ false → image h I (suc m) p ≡ image h I m p
  unfolding image
  image-skip I m p e = cond-false (I m && writes h m p) (after h (suc m) p) (image h I m p) e

  pub image-outside : (I : ℕ → Bool) (m p : ℕ) → I m ≡ false → image h I (suc m) p ≡ image h I m p
  image-outside I m p e = image-skip I m p (and_left (I m) (writes h m p) e)

  pub image-unwritten : (I : ℕ → Bool) (m p : ℕ) → writes h m p ≡ false → image h I (suc m) p ≡ image h I m p
  image-unwritten I m p e = image-skip I m p (and_right (I m) (writes h m p) e)

  -- where every operation that writes a page is in the set, its image is what all operations give
  pub image-all : (J : ℕ → Bool) (n p : ℕ) → ((m : ℕ) → m < n → writes h m p ≡ true → J m ≡ true) → image h J n p ≡ after h n p
  unfolding image after
  image-all J zero p all = refl
  image-all J (suc m) p all = go (image-all J m p (λ k l. all k (omega arith))) (writes h m p) refl
    where
      go : image h J m p ≡ after h m p → (b : Bool) → writes h m p ≡ b → image h J (suc m) p ≡ after h (suc m) p
      go ih true e = image-hit J m p (all m (omega arith) e) e
      go ih false e = image-unwritten J m p e ∙ ih ∙ sym (after-unwritten m p e)

  -- sets that agree on the operations that write a page give it one image
  pub image-like : (I J : ℕ → Bool) (n p : ℕ) → ((m : ℕ) → m < n → writes h m p ≡ true → I m ≡ J m) → image h I n p ≡ image h J n p
  unfolding image
  image-like I J zero p same = refl
  image-like I J (suc m) p same = go (image-like I J m p (λ k l. same k (omega arith))) (writes h m p) refl
    where
      go : image h I m p ≡ image h J m p → (b : Bool) → writes h m p ≡ b → image h I (suc m) p ≡ image h J (suc m) p
      go ih true e = rw (e, ih, same m (omega arith) e) refl
      go ih false e = image-unwritten I m p e ∙ ih ∙ sym (image-unwritten J m p e)

  -- later operations that do not write the page, or are not in the set, change nothing
  pub image-still : (J : ℕ → Bool) (k n p : ℕ) → k ≤ n → ((m : ℕ) → k ≤ m → m < n → writes h m p ≡ true → J m ≡ false) → image h J n p ≡ image h J k p
  image-still J k zero p l none = ap (λ j. image h J j p) (omega arith)
  image-still J k (suc m) p l none = go (image-still J k m p) (cases_eq k (suc m)) (writes h m p) refl
    where
      go : (k ≤ m → ((j : ℕ) → k ≤ j → j < m → writes h j p ≡ true → J j ≡ false) → image h J m p ≡ image h J k p)
          → ((k ≡ suc m) ⊎ (k ≡ suc m → ⊥)) → (b : Bool) → writes h m p ≡ b → image h J (suc m) p ≡ image h J k p
      go ih (inl same) b e = ap (λ j. image h J j p) (sym same)
      go ih (inr less) true e = image-outside J m p (none m (omega arith) (omega arith) e) ∙ ih (omega arith) (λ j a b. none j a (omega arith))
      go ih (inr less) false e = image-unwritten J m p e ∙ ih (omega arith) (λ j a b. none j a (omega arith))

  -- the numbers of pages, in a history that ran up to n
  module _ (n : ℕ) (ran : Ran h n) where
    pub after-number : (m p : ℕ) → m < n → writes h m p ≡ true → (after h (suc m) p).number ≡ m
    after-number m p l e =
        let ok = ran.accepted m (writes-from m p e) l in
        ap (λ (w : ℕ → Page). (w p).number) (after-suc m) ∙ ap (λ (q : Page). q.number) (run-written m p (after h m) ok.0 e ok.1)

    -- an operation of the set that writes a page leaves it a number at or above its own
    pub image-reaches : (I : ℕ → Bool) (m k p : ℕ) → k ≤ n → m < k → I m ≡ true → writes h m p ≡ true → m ≤ (image h I k p).number
    image-reaches I m zero p kn l i e = absurd (omega arith)
    image-reaches I m (suc k) p kn l i e = go (image-reaches I m k p (omega arith)) (I k && writes h k p) refl
      where
        go : (m < k → I m ≡ true → writes h m p ≡ true → m ≤ (image h I k p).number) → (b : Bool) → (I k && writes h k p) ≡ b → m ≤ (image h I (suc k) p).number
        go ih true e' =
            let both = and_parts (I k) (writes h k p) e' in
            let num : (image h I (suc k) p).number ≡ k = ap (λ (q : Page). q.number) (image-hit I k p both.0 both.1) ∙ after-number k p (omega arith) both.1 in
            omega arith
        go ih false e' =
            let num : (image h I (suc k) p).number ≡ (image h I k p).number = ap (λ (q : Page). q.number) (image-skip I k p e') in
            elim (cases_eq m k) [
              | inl same ↦ absurd (both_ways (I k && writes h k p) e' (let s : k ≡ m = sym same in rw s (and_from (I m) (writes h m p) i e)))
              | inr other ↦ omega (arith, ih (omega arith) i e)
            ]

    -- where no operation of the set from m on writes a page, its number is below m
    pub image-below : (I : ℕ → Bool) (m k p : ℕ) → k ≤ n → h.first ≤ m → ((j : ℕ) → m ≤ j → j < k → writes h j p ≡ true → I j ≡ false) → (image h I k p).number < m
    unfolding image
    image-below I m zero p kn f none = let s = ran.starts_below p in omega arith
    image-below I m (suc k) p kn f none = go (image-below I m k p (omega arith) f (λ j a b. none j a (omega arith))) (I k && writes h k p) refl
      where
        go : (image h I k p).number < m → (b : Bool) → (I k && writes h k p) ≡ b → (image h I (suc k) p).number < m
        go ih true e =
            let both = and_parts (I k) (writes h k p) e in
            let num : (image h I (suc k) p).number ≡ k = ap (λ (q : Page). q.number) (image-hit I k p both.0 both.1) ∙ after-number k p (omega arith) both.1 in
            elim (cases_lt k m) [
              | inl l ↦ omega arith
              | inr g ↦ absurd (both_ways (I k) (none k g (omega arith) both.1) both.0)
            ]
        go ih false e = let num : (image h I (suc k) p).number ≡ (image h I k p).number = ap (λ (q : Page). q.number) (image-skip I k p e) in omega arith
