-- What each step makes of pages.
use Rattle.std.proofs.Common.{◌≡◌, ℕ, zero, suc, ◌+◌, ◌*◌, ◌<◌, ◌≤◌, Bool, true, false, cond, ◌&&◌, ◌||◌, eqb, ltb, leb, List, [], ◌∷◌, ◌++◌, length, take, drop, Ok, sym, refl, ap, ◌∙◌, ap₂, inl, inr, arith}
use Rattle.std.specs.List.{flat_map}
use Rattle.std.proofs.lemmas.List.{append-nil, take_all, take_at, drop_at, length-take, length-drop}
use Rattle.std.proofs.lemmas.Bool.{cases_lt, cond-true, cond-false, eq-eqb, ne_eqb, and_from, le-leb}
use Rattle.std.proofs.lemmas.Bool.Decides.{nat_tests}
use Rattle.sets.specs.Sets as in_set
use Rattle.sets.specs.Sets.{has, pages}
use Rattle.sets.proofs.SetLaws.{rising_none, rising-count}
use Rattle.kinds.specs.PageSets.{only, both}
use Rattle.kinds.specs.PageSetLaws.{set-has}
use Rattle.tree.specs.declared.step.Step.{Step}
use Rattle.tree.specs.declared.step.Step.TheVariants.{Insert, Lower, Upper, Cut, Grow}
use Rattle.tree.specs.Orders.{KeyOrdering}
use Rattle.tree.specs.Nodes.{absent, put, count, entries, renew, leaf_form, full_leaf, root_form, middle_key}
use Rattle.tree.specs.Steps.{sets, change, cut, cut_form, blank}
use Rattle.tree.specs.TreeLaws.{renew-length, leaf-few}
use Rattle.treemap.specs.Lookups.{Pages}
use Rattle.treemap.specs.Plans.{gathered, share_of, written, stepped_by, stepped}
use Rattle.treemap.proofs.FormLaws.{full_parts, count_entries}

-- ---- sets of one page, and of page 0 and another

rising-gap : (f : ℕ → Bool) (m n : ℕ) → m ≤ n → ((q : ℕ) → m ≤ q → q < n → f q ≡ false) → in_set.rising f n ≡ in_set.rising f m
unfolding in_set.rising
rising-gap f m zero le out = let z : m ≡ 0 = omega arith in ap (in_set.rising f) (sym z)
rising-gap f m (suc n) le out = elim (cases_lt m (suc n)) [
  | inl l ↦ ap (λ b. in_set.rising f n ++ cond b (n ∷ []) []) (out n (omega arith) (omega arith)) ∙ append-nil (in_set.rising f n) ∙ rising-gap f m n (omega arith) (λ q a b. out q a (omega arith))
  | inr g ↦ let z : m ≡ suc n = omega arith in ap (in_set.rising f) (sym z)
]

rising-at : (f : ℕ → Bool) (p : ℕ) → f p ≡ true → in_set.rising f (suc p) ≡ in_set.rising f p ++ (p ∷ [])
unfolding in_set.rising
rising-at f p e = ap (λ b. in_set.rising f p ++ cond b (p ∷ []) []) e

-- the first page of a set
rising-first : (f : ℕ → Bool) (p : ℕ) → f p ≡ true → ((q : ℕ) → q < p → f q ≡ false) → in_set.rising f (suc p) ≡ p ∷ []
rising-first f p e out = rising-at f p e ∙ ap (λ xs. xs ++ (p ∷ [])) (rising-gap f 0 p (omega arith) (λ q _ l. out q l) ∙ rising_none f)

first_count : (f : ℕ → Bool) (p : ℕ) → ((q : ℕ) → q < p → f q ≡ false) → in_set.count f p ≡ 0
first_count f p out = sym (rising-count f p) ∙ ap length (rising-gap f 0 p (omega arith) (λ q _ l. out q l) ∙ rising_none f)

-- the page that comes first takes the first 224 bytes, the next one the next
first-share : (set p : ℕ) (new : List ℕ) → in_set.count (has set) p ≡ 0 → share_of set new p ≡ take 224 new
first-share set p new e = ap (λ n. take 224 (drop (224 * n) new)) e

next-share : (set p : ℕ) (new : List ℕ) → in_set.count (has set) p ≡ 1 → share_of set new p ≡ take 224 (drop 224 new)
next-share set p new e = ap (λ n. take 224 (drop (224 * n) new)) e

written_in : (set p : ℕ) (new : List ℕ) (s : Pages) → has set p ≡ true → written set new s p ≡ share_of set new p
unfolding written
written_in set p new s h = cond-true (has set p) (share_of set new p) (s p) h

written-else : (set p : ℕ) (new : List ℕ) (s : Pages) → has set p ≡ false → written set new s p ≡ s p
unfolding written
written-else set p new s h = cond-false (has set p) (share_of set new p) (s p) h

module _ (p : ℕ) (l : p < 64) where
  only-has : (q : ℕ) → has (only p) q ≡ eqb q p
  only-has q = set-has (λ x. eqb x p) q ∙ at
    where
      at : (eqb q p && ltb q 64) ≡ eqb q p
      at = grind (arith, nat_tests)

  only-not : (q : ℕ) → (q ≡ p → ⊥) → has (only p) q ≡ false
  only-not q ne = only-has q ∙ ne_eqb q p ne

  only-read : (s : Pages) → gathered (only p) s ≡ s p
  only-read s =
      let one : pages (only p) ≡ p ∷ [] = rising-gap (has (only p)) (suc p) 64 (omega arith) (λ q a _. only-not q (λ e. omega arith)) ∙ rising-first (has (only p)) p (only-has p ∙ eq-eqb p p refl) (λ q a. only-not q (λ e. omega arith)) in
      ap (flat_map s) one ∙ append-nil (s p)

  only-written : (new : List ℕ) (s : Pages) → length new ≡ 224 → written (only p) new s p ≡ new
  only-written new s n = written_in (only p) p new s (only-has p ∙ eq-eqb p p refl) ∙ first-share (only p) p new (first_count (has (only p)) p (λ q a. only-not q (λ e. omega arith))) ∙ take_all 224 new (omega arith)

  only-else : (new : List ℕ) (s : Pages) (q : ℕ) → (q ≡ p → ⊥) → written (only p) new s q ≡ s q
  only-else new s q ne = written-else (only p) q new s (only-not q ne)

module _ (p : ℕ) (low : 1 ≤ p) (l : p < 64) where
  both-has : (q : ℕ) → has (both 0 p) q ≡ (eqb q 0 || eqb q p)
  both-has q = set-has (λ x. eqb x 0 || eqb x p) q ∙ at
    where
      at : ((eqb q 0 || eqb q p) && ltb q 64) ≡ (eqb q 0 || eqb q p)
      at = grind (arith, nat_tests)

  both-not : (q : ℕ) → (q ≡ 0 → ⊥) → (q ≡ p → ⊥) → has (both 0 p) q ≡ false
  both-not q n0 np = both-has q ∙ at
    where
      at : (eqb q 0 || eqb q p) ≡ false
      at = grind (arith, nat_tests)

  both-here : has (both 0 p) p ≡ true
  both-here = both-has p ∙ at
    where
      at : (eqb p 0 || eqb p p) ≡ true
      at = grind (arith, nat_tests)

  upto : in_set.rising (has (both 0 p)) p ≡ 0 ∷ []
  upto = rising-gap (has (both 0 p)) 1 p low (λ q a b. both-not q (λ e. omega arith) (λ e. omega arith)) ∙ rising-first (has (both 0 p)) 0 (both-has 0) (λ q a. absurd (omega arith))

  both_read : (s : Pages) → gathered (both 0 p) s ≡ s 0 ++ s p
  both_read s =
      let two : pages (both 0 p) ≡ 0 ∷ p ∷ [] = rising-gap (has (both 0 p)) (suc p) 64 (omega arith) (λ q a _. both-not q (λ e. omega arith) (λ e. omega arith)) ∙ rising-at (has (both 0 p)) p both-here ∙ ap (λ xs. xs ++ (p ∷ [])) upto in
      ap (flat_map s) two ∙ ap (λ x. s 0 ++ x) (append-nil (s p))

  both_first : (x y : List ℕ) (s : Pages) → length x ≡ 224 → written (both 0 p) (x ++ y) s 0 ≡ x
  both_first x y s n = written_in (both 0 p) 0 (x ++ y) s (both-has 0) ∙ first-share (both 0 p) 0 (x ++ y) (first_count (has (both 0 p)) 0 (λ q a. absurd (omega arith))) ∙ take_at x y 224 n

  both-next : (x y : List ℕ) (s : Pages) → length x ≡ 224 → length y ≡ 224 → written (both 0 p) (x ++ y) s p ≡ y
  both-next x y s n m = written_in (both 0 p) p (x ++ y) s both-here ∙ next-share (both 0 p) p (x ++ y) (sym (rising-count (has (both 0 p)) p) ∙ ap length upto) ∙ ap (take 224) (drop_at x y 224 n) ∙ take_all 224 y (omega arith)

  both-else : (new : List ℕ) (s : Pages) (q : ℕ) → (q ≡ 0 → ⊥) → (q ≡ p → ⊥) → written (both 0 p) new s q ≡ s q
  both-else new s q n0 np = written-else (both 0 p) q new s (both-not q n0 np)

-- ---- the steps

stepped-ok : (o : KeyOrdering) (st : Step) (s : Pages) (new : List ℕ) → change o st (gathered (sets st).0 s) ≡ Ok new → stepped o st s ≡ Ok (written (sets st).1 new s)
unfolding stepped
stepped-ok o st s new e = ap (stepped_by (sets st).1 s) e

-- a step is accepted, page p takes contents c, and no other page changes
pub record Writes (o : KeyOrdering) (st : Step) (s : Pages) (p : ℕ) (c : List ℕ) : Type 0 where
  pub next : Pages
  pub accepted : stepped o st s ≡ Ok next
  pub there : next p ≡ c
  pub others : (q : ℕ) → (q ≡ p → ⊥) → next q ≡ s q

one_writes : (o : KeyOrdering) (st : Step) (s : Pages) (p r : ℕ) (new : List ℕ) → p < 64 → r < 64 → (sets st).0 ≡ only r → (sets st).1 ≡ only p → change o st (s r) ≡ Ok new → length new ≡ 224 → Writes o st s p new
one_writes o st s p r new lp lr er ew ok n = record {
  next = written (only p) new s;
  accepted = stepped-ok o st s new (ap (λ x. change o st (gathered x s)) er ∙ ap (change o st) (only-read r lr s) ∙ ok) ∙ ap (λ x. Ok (written x new s)) ew;
  there = only-written p lp new s n;
  others = λ q ne. only-else p lp new s q ne;
}

pub blank-sized : length blank ≡ 224
unfolding blank
blank-sized = refl

pub blank-count : count blank ≡ 0
unfolding blank
blank-count = refl

pub insert-writes : (o : KeyOrdering) (s : Pages) (p k v : ℕ) → p < 64 → length (s p) ≡ 224 → leaf_form o (s p) ≡ true → length (put o k v (entries (s p))) ≤ 26 → Writes o (Insert p k v) s p (renew 1 (put o k v (entries (s p))) (s p))
insert-writes o s p k v l n leaf room =
    one_writes o (Insert p k v) s p p (renew 1 (put o k v (entries (s p))) (s p)) l l refl refl
    (cond-true (leaf_form o (s p)) _ _ leaf ∙ cond-true (leb (length (put o k v (entries (s p)))) 26) _ _ (le-leb (length (put o k v (entries (s p)))) 26 room))
    (renew-length 1 (put o k v (entries (s p))) (s p) n (leaf-few o (s p) leaf) room)

half-sized : (c : List ℕ) → count c ≡ 26 → (length (take 13 (entries c)) ≡ 13) × (length (drop 13 (entries c)) ≡ 13)
half-sized c n = let e = count_entries c in (length-take 13 (entries c) ∙ omega arith, length-drop 13 (entries c) ∙ omega arith)

pub lower-writes : (o : KeyOrdering) (s : Pages) (p q : ℕ) → p < 64 → q < 64 → full_leaf o (s p) ≡ true → Writes o (Lower p q) s q (renew 1 (take 13 (entries (s p))) blank)
lower-writes o s p q lp lq full =
    let h = half-sized (s p) (full_parts o (s p) full).0 in
    let z = blank-count in
    one_writes o (Lower p q) s q p (renew 1 (take 13 (entries (s p))) blank) lq lp refl refl (cond-true (full_leaf o (s p)) _ _ full) (renew-length 1 (take 13 (entries (s p))) blank blank-sized (omega arith) (omega arith))

pub upper-writes : (o : KeyOrdering) (s : Pages) (p q : ℕ) → p < 64 → q < 64 → full_leaf o (s p) ≡ true → Writes o (Upper p q) s q (renew 1 (drop 13 (entries (s p))) blank)
upper-writes o s p q lp lq full =
    let h = half-sized (s p) (full_parts o (s p) full).0 in
    let z = blank-count in
    one_writes o (Upper p q) s q p (renew 1 (drop 13 (entries (s p))) blank) lq lp refl refl (cond-true (full_leaf o (s p)) _ _ full) (renew-length 1 (drop 13 (entries (s p))) blank blank-sized (omega arith) (omega arith))

pub grow-writes : (o : KeyOrdering) (s : Pages) → length (s 0) ≡ 224 → full_leaf o (s 0) ≡ true → Writes o Grow s 0 (renew 2 ((o.least, 1) ∷ ((middle_key (s 0), 2) ∷ [])) (s 0))
grow-writes o s n full =
    let f = full_parts o (s 0) full in
    one_writes o Grow s 0 0 (renew 2 ((o.least, 1) ∷ ((middle_key (s 0), 2) ∷ [])) (s 0)) (omega arith) (omega arith) refl refl (cond-true (full_leaf o (s 0)) _ _ full)
    (renew-length 2 ((o.least, 1) ∷ ((middle_key (s 0), 2) ∷ [])) (s 0) n (leaf-few o (s 0) f.1) (omega arith))

-- a cut is accepted, the root and the leaf are renewed, and no other page changes
pub record Cuts (o : KeyOrdering) (s : Pages) (p q : ℕ) (root leaf : List ℕ) : Type 0 where
  pub next : Pages
  pub accepted : stepped o (Cut p q) s ≡ Ok next
  pub at-root : next 0 ≡ root
  pub at_leaf : next p ≡ leaf
  pub others : (r : ℕ) → (r ≡ 0 → ⊥) → (r ≡ p → ⊥) → next r ≡ s r

pub cut-writes : (o : KeyOrdering) (s : Pages) (p q : ℕ) → 1 ≤ p → p < 64 → length (s 0) ≡ 224 → length (s p) ≡ 224 → full_leaf o (s p) ≡ true → root_form o (s 0) ≡ true → count (s 0) + 1 ≡ q → q ≤ 26 → absent (middle_key (s p)) (entries (s 0)) ≡ true
    → length (put o (middle_key (s p)) q (entries (s 0))) ≤ 26 → Cuts o s p q (renew 2 (put o (middle_key (s p)) q (entries (s 0))) (s 0)) (renew 1 (take 13 (entries (s p))) (s p))
cut-writes o s p q low l n0 np full root e few away room =
    let f = full_parts o (s p) full in
    let h = half-sized (s p) f.0 in
    let x = renew 2 (put o (middle_key (s p)) q (entries (s 0))) (s 0) in
    let y = renew 1 (take 13 (entries (s p))) (s p) in
    let lx : length x ≡ 224 = renew-length 2 (put o (middle_key (s p)) q (entries (s 0))) (s 0) n0 (omega arith) room in
    let ly : length y ≡ 224 = renew-length 1 (take 13 (entries (s p))) (s p) np (omega arith) (omega arith) in
    let form : cut_form o q (s 0) (s p) ≡ true = and_from (full_leaf o (s p)) (root_form o (s 0) && (eqb (count (s 0) + 1) q && absent (middle_key (s p)) (entries (s 0)))) full
    (and_from (root_form o (s 0)) (eqb (count (s 0) + 1) q && absent (middle_key (s p)) (entries (s 0))) root (and_from (eqb (count (s 0) + 1) q) (absent (middle_key (s p)) (entries (s 0))) (eq-eqb (count (s 0) + 1) q e) away)) in
    let done : change o (Cut p q) (gathered (both 0 p) s) ≡ Ok (x ++ y) = ap (λ old. cut o q (take 224 old) (drop 224 old)) (both_read p low l s) ∙ ap₂ (λ a b. cut o q a b) (take_at (s 0) (s p) 224 n0) (drop_at (s 0) (s p) 224 n0) ∙ cond-true (cut_form o q (s 0) (s p)) _ _ form in
    record {
      next = written (both 0 p) (x ++ y) s;
      accepted = stepped-ok o (Cut p q) s (x ++ y) done;
      at-root = both_first p low l x y s lx;
      at_leaf = both-next p low l x y s lx ly;
      others = λ r n m. both-else p low l (x ++ y) s r n m;
    }
