-- Running one more operation, losing operations at the end, and dropping installed ones from the log.
use Rattle.std.proofs.Common.{◌≡◌, ℕ, zero, suc, ◌<◌, ◌≤◌, Bool, true, false, cond, not, ◌&&◌, ◌||◌, eqb, ltb, leb, ◌⊎◌, List, Some, sym, refl, ap, ◌∙◌, subst, ap₂, inl, inr, arith}
use mathlib.Core.Path.{fun_ext}
use Rattle.std.proofs.lemmas.Bool.{false_from_ne_true, both_ways, cond-true, cond-false, cases_lt, cases_eq, and_left, and_right, or_left, or_right, or_cases, le-leb, lt-leb, lt-ltb, le-ltb, eq-eqb, ne_eqb, not_from_true}
use Rattle.redo.specs.Histories.{Page, Operation, History, reads, writes, touches, contents_of, effect_on, renewed, run, after, image, WellFormed, Ran}
use Rattle.redo.specs.Prefixes.{uninstalled, Prefix, Installed}
use Rattle.redo.specs.Installation.{extended, trimmed}
use Rattle.redo.specs.Theorems.{RunKeeps, LossKeeps, TrimKeeps}
use Rattle.redo.proofs.InstallLaws.{uninstalled-from}
use Rattle.redo.proofs.HistoryLaws.{writes-from, reads-from, after-suc, run-unwritten, image-outside, image-all, image-still, image-below}

pub or-none : (x y : Bool) → y ≡ false → (x || y) ≡ x
or-none true y e = refl
or-none false y e = e

and-all : (x y : Bool) → y ≡ true → (x && y) ≡ x
and-all true y e = e
and-all false y e = refl

-- ---- one more operation

module _ (h : History) (n : ℕ) (o : Operation) where
  pub same_operation : (m : ℕ) → m < n → (extended h n o).operation m ≡ h.operation m
  same_operation m l = cond-false (eqb m n) o (h.operation m) (ne_eqb m n (λ e. omega arith))

  pub new-operation : (extended h n o).operation n ≡ o
  new-operation = cond-true (eqb n n) o (h.operation n) (eq-eqb n n refl)

  pub writes_same : (m p : ℕ) → m < n → writes (extended h n o) m p ≡ writes h m p
  writes_same m p l = ap (λ (x : Operation). leb h.first m && x.writes p) (same_operation m l)

  pub reads_same : (m p : ℕ) → m < n → reads (extended h n o) m p ≡ reads h m p
  reads_same m p l = ap (λ (x : Operation). leb h.first m && x.reads p) (same_operation m l)

  pub extended-after : (m : ℕ) → m ≤ n → after (extended h n o) m ≡ after h m
  unfolding after
  extended-after zero l = refl
  extended-after (suc m) l = ap₂ step (same_operation m l) (extended-after m (omega arith))
    where
      step : Operation → (ℕ → Page) → ℕ → Page
      step x w p = cond (leb h.first m && x.writes p) (renewed (x.effect (contents_of w)) m p (w p)) (w p)

  pub extended-image : (I : ℕ → Bool) (m p : ℕ) → m ≤ n → image (extended h n o) I m p ≡ image h I m p
  unfolding image
  extended-image I zero p l = refl
  extended-image I (suc m) p l =
      ap₂ (λ (b : Bool) (x : Page). cond (I m && b) (after (extended h n o) (suc m) p) x) (writes_same m p l) (extended-image I m p (omega arith))
      ∙ ap (λ (w : ℕ → Page). cond (I m && writes h m p) (w p) (image h I m p)) (extended-after (suc m) l)

-- it alone becomes dirty
pub newly_dirty : (h : History) (I : ℕ → Bool) (n : ℕ) (o : Operation) → h.first ≤ n → I n ≡ false
    → (m : ℕ) → uninstalled (extended h n o) I (suc n) m ≡ (uninstalled h I n m || eqb m n)
newly_dirty h I n o f not_yet m = dirty-at m (cases_eq m n)
  where
    dirty-at : (m : ℕ) → (m ≡ n) ⊎ (m ≡ n → ⊥) → uninstalled (extended h n o) I (suc n) m ≡ (uninstalled h I n m || eqb m n)
    dirty-at m (inl same) =
        uninstalled-from (extended h n o) I (suc n) m (omega arith) (omega arith) (ap I same ∙ not_yet)
        ∙ sym (or_right (uninstalled h I n m) (eqb m n) (eq-eqb m n same))
    dirty-at m (inr other) =
        ap (λ b. leb h.first m && (b && not (I m))) (elim (cases_lt m n) [
          | inl l ↦ lt-ltb m (suc n) (omega arith) ∙ sym (lt-ltb m n l)
          | inr g ↦ le-ltb m (suc n) (omega arith) ∙ sym (le-ltb m n g)
        ])
        ∙ sym (or-none (uninstalled h I n m) (eqb m n) (ne_eqb m n other))

pub run-keeps : RunKeeps
run-keeps h I n w o new ran kept f well ok = record {
  ran = ran';
  installed = kept';
  same_pages = λ m p l. ap (λ (v : ℕ → Page). v p) (extended-after h n o m l);
  newly_dirty = newly_dirty h I n o f not_yet;
}
  where
    not_yet : I n ≡ false
    not_yet = false_from_ne_true (I n) (λ i. omega (arith, kept.were_run n i))

    well-at : (m : ℕ) → h.first ≤ m → m < suc n → WellFormed ((extended h n o).operation m)
    well-at m g l = elim (cases_eq m n) [
      | inl same ↦ subst (λ (x : Operation). WellFormed x) (sym (new-operation h n o) ∙ ap (extended h n o).operation (sym same)) well
      | inr other ↦ subst (λ (x : Operation). WellFormed x) (sym (same_operation h n o m (omega arith))) (ran.well_formed m g (omega arith))
    ]

    accepted-at : (m : ℕ) → h.first ≤ m → m < suc n → (new : ℕ → List ℕ) × (effect_on (extended h n o) m (after (extended h n o) m) ≡ Some new)
    accepted-at m g l = elim (cases_eq m n) [
      | inl same ↦ subst (λ (k : ℕ). (new : ℕ → List ℕ) × (effect_on (extended h n o) k (after (extended h n o) k) ≡ Some new)) (sym same)
          (new, ap₂ (λ (x : Operation) (v : ℕ → Page). x.effect (contents_of v)) (new-operation h n o) (extended-after h n o n (omega arith)) ∙ ok)
      | inr other ↦ let was = ran.accepted m g (omega arith) in
          (was.0, ap₂ (λ (x : Operation) (v : ℕ → Page). x.effect (contents_of v)) (same_operation h n o m (omega arith)) (extended-after h n o m (omega arith)) ∙ was.1)
    ]

    ran' : Ran (extended h n o) (suc n)
    ran' = record { starts_below = ran.starts_below; well_formed = well-at; accepted = accepted-at }

    brings : Prefix (extended h n o) I (suc n)
    brings O P x l pn i wr t =
        let below = kept.were_run P i in
        kept.is_prefix O P x l below i (sym (writes_same h n o P x below) ∙ wr)
        (ap₂ ◌||◌ (sym (reads_same h n o O x (omega arith))) (sym (writes_same h n o O x (omega arith))) ∙ t)

    kept' : Installed (extended h n o) I (suc n) w
    kept' = record {
      were_run = λ m i. let l = kept.were_run m i in omega arith;
      is_prefix = brings;
      images = λ p. kept.images p ∙ sym (extended-image h n o I n p (omega arith)) ∙ sym (image-outside (extended h n o) I n p not_yet);
    }

-- ---- operations lost at the end

pub loss_keeps_lem : LossKeeps
loss_keeps_lem h I n k w ran kept l none =
    record { ran = ran'; installed = kept'; still_dirty = λ m. dirty-at m (cases_lt m k) }
  where
    out : (m : ℕ) → k ≤ m → I m ≡ false
    out m a = false_from_ne_true (I m) (λ i. omega (arith, none m i))

    ran' : Ran h k
    ran' = record {
      starts_below = ran.starts_below;
      well_formed = λ m f b. ran.well_formed m f (omega arith);
      accepted = λ m f b. ran.accepted m f (omega arith);
    }

    kept' : Installed h I k w
    kept' = record {
      were_run = none;
      is_prefix = λ O P x a b. kept.is_prefix O P x a (omega arith);
      images = λ p. kept.images p ∙ image-still h I k n p l (λ m a b wr. out m a);
    }

    dirty-at : (m : ℕ) → (m < k) ⊎ (k ≤ m) → uninstalled h I k m ≡ (uninstalled h I n m && ltb m k)
    dirty-at m (inl lt) =
        ap (λ b. leb h.first m && (b && not (I m))) (lt-ltb m k lt ∙ sym (lt-ltb m n (omega arith)))
        ∙ sym (and-all (uninstalled h I n m) (ltb m k) (lt-ltb m k lt))
    dirty-at m (inr ge) =
        and_right (leb h.first m) (ltb m k && not (I m)) (and_left (ltb m k) (not (I m)) (le-ltb m k ge))
        ∙ sym (and_right (uninstalled h I n m) (ltb m k) (le-ltb m k ge))

-- ---- installed operations dropped from the log

module _ (h : History) (k : ℕ) (from_First : h.first ≤ k) where
  pub trimmed-writes : (m p : ℕ) → k ≤ m → writes (trimmed h k) m p ≡ writes h m p
  trimmed-writes m p l = ap (λ b. b && (h.operation m).writes p) (le-leb k m l ∙ sym (le-leb h.first m (omega arith)))

  pub trimmed-reads : (m p : ℕ) → k ≤ m → reads (trimmed h k) m p ≡ reads h m p
  trimmed-reads m p l = ap (λ b. b && (h.operation m).reads p) (le-leb k m l ∙ sym (le-leb h.first m (omega arith)))

  dropped : (m p : ℕ) → m < k → writes (trimmed h k) m p ≡ false
  dropped m p l = and_left (leb k m) ((h.operation m).writes p) (lt-leb k m l)

  before : (m : ℕ) → m ≤ k → after (trimmed h k) m ≡ after h k
  unfolding after
  before zero l = refl
  before (suc m) l = fun_ext (λ p. run-unwritten (trimmed h k) m p (after (trimmed h k) m) (dropped m p l)) ∙ before m (omega arith)

  pub trimmed-after : (m : ℕ) → k ≤ m → after (trimmed h k) m ≡ after h m
  trimmed-after zero l = before zero (omega arith) ∙ ap (after h) (omega arith)
  trimmed-after (suc m) l = go (cases_eq k (suc m)) (trimmed-after m)
    where
      same-run : k ≤ m → (w : ℕ → Page) → run (trimmed h k) m w ≡ run h m w
      same-run g w = fun_ext (λ p. ap (λ b. cond b (renewed (effect_on h m w) m p (w p)) (w p)) (trimmed-writes m p g))

      go : (k ≡ suc m) ⊎ (k ≡ suc m → ⊥) → (k ≤ m → after (trimmed h k) m ≡ after h m) → after (trimmed h k) (suc m) ≡ after h (suc m)
      go (inl same) ih = before (suc m) (omega arith) ∙ ap (after h) same
      go (inr less) ih =
          after-suc (trimmed h k) m ∙ same-run (omega arith) (after (trimmed h k) m) ∙ ap (run h m) (ih (omega arith)) ∙ sym (after-suc h m)

  module _ (I : ℕ → Bool) (all : (m : ℕ) → h.first ≤ m → m < k → I m ≡ true) where
    image-start : (p : ℕ) → image (trimmed h k) I k p ≡ image h I k p
    unfolding image
    image-start p =
        image-still (trimmed h k) I 0 k p (omega arith) (λ m a b wr. absurd (both_ways (writes (trimmed h k) m p) (dropped m p b) wr))
        ∙ start
        ∙ sym (image-all h I k p (λ m l wr. all m (writes-from h m p wr) l))
      where
        start : image (trimmed h k) I 0 p ≡ after h k p
        start = refl

    pub trimmed-image : (m p : ℕ) → k ≤ m → image (trimmed h k) I m p ≡ image h I m p
    unfolding image
    trimmed-image zero p l = ap (λ j. image (trimmed h k) I j p) (sym zero_k) ∙ image-start p ∙ ap (λ j. image h I j p) zero_k
      where
        zero_k : k ≡ 0
        zero_k = omega arith
    trimmed-image (suc m) p l = go (cases_eq k (suc m)) (trimmed-image m p)
      where
        go : (k ≡ suc m) ⊎ (k ≡ suc m → ⊥) → (k ≤ m → image (trimmed h k) I m p ≡ image h I m p) → image (trimmed h k) I (suc m) p ≡ image h I (suc m) p
        go (inl same) ih = ap (λ j. image (trimmed h k) I j p) (sym same) ∙ image-start p ∙ ap (λ j. image h I j p) same
        go (inr less) ih =
            ap₂ (λ (b : Bool) (x : Page). cond (I m && b) (after (trimmed h k) (suc m) p) x) (trimmed-writes m p (omega arith)) (ih (omega arith))
            ∙ ap (λ (w : ℕ → Page). cond (I m && writes h m p) (w p) (image h I m p)) (trimmed-after (suc m) l)

pub trim-keeps : TrimKeeps
trim-keeps h I n k w ran kept f l all = record {
  ran = ran';
  installed = kept';
  same_pages = λ m p g. ap (λ (v : ℕ → Page). v p) (trimmed-after h k f m g);
  still_dirty = λ m. dirty-at m (cases_lt m k) (cases_lt m h.first);
}
  where
    dirty-at : (m : ℕ) → (m < k) ⊎ (k ≤ m) → (m < h.first) ⊎ (h.first ≤ m) → uninstalled (trimmed h k) I n m ≡ uninstalled h I n m
    dirty-at m (inl lt) (inl early) =
        and_left (leb k m) (ltb m n && not (I m)) (lt-leb k m lt) ∙ sym (and_left (leb h.first m) (ltb m n && not (I m)) (lt-leb h.first m early))
    dirty-at m (inl lt) (inr g) =
        and_left (leb k m) (ltb m n && not (I m)) (lt-leb k m lt)
        ∙ sym (and_right (leb h.first m) (ltb m n && not (I m)) (and_right (ltb m n) (not (I m)) (not_from_true (I m) (all m g lt))))
    dirty-at m (inr ge) b = ap (λ x. x && (ltb m n && not (I m))) (le-leb k m ge ∙ sym (le-leb h.first m (omega arith)))

    starts : (p : ℕ) → (after h k p).number < k
    starts p =
        let e : after h k p ≡ image h (λ _. true) k p = sym (image-all h (λ _. true) k p (λ _ _ _. refl)) in
        let b = image-below h n ran (λ _. true) k k p l f (λ j a c. absurd (omega arith)) in
        omega (arith, ap (λ (q : Page). q.number) e)

    ran' : Ran (trimmed h k) n
    ran' = record {
      starts_below = starts;
      well_formed = λ m g b. ran.well_formed m (omega arith) b;
      accepted = λ m g b. let was = ran.accepted m (omega arith) b in
          (was.0, ap (λ (v : ℕ → Page). (h.operation m).effect (contents_of v)) (trimmed-after h k f m g) ∙ was.1);
    }

    touched : (O x : ℕ) → touches (trimmed h k) O x ≡ true → touches h O x ≡ true
    touched O x t = elim (or_cases (reads (trimmed h k) O x) (writes (trimmed h k) O x) t) [
      | inl rd ↦ or_left (reads h O x) (writes h O x) (sym (trimmed-reads h k f O x (reads-from (trimmed h k) O x rd)) ∙ rd)
      | inr wr ↦ or_right (reads h O x) (writes h O x) (sym (trimmed-writes h k f O x (writes-from (trimmed h k) O x wr)) ∙ wr)
    ]

    kept' : Installed (trimmed h k) I n w
    kept' = record {
      were_run = kept.were_run;
      is_prefix = λ O P x a b i wr t.
          kept.is_prefix O P x a b i (sym (trimmed-writes h k f P x (writes-from (trimmed h k) P x wr)) ∙ wr) (touched O x t);
      images = λ p. kept.images p ∙ sym (trimmed-image h k f I all n p l);
    }
