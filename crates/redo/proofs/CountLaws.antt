-- How many groups there are.
use Rattle.std.proofs.Common.{◌≡◌, ℕ, zero, suc, ◌+◌, ◌<◌, Bool, true, false, cond, ◌⊎◌, sym, refl, ap, ◌∙◌, ap₂, inl, inr, arith}
use Rattle.std.proofs.lemmas.Bool.{false_from_ne_true, both_ways, cases_eq, cases_lt, cases_Bool, cond-true, cond-false}
use Rattle.sets.specs.Sets.{count, first}
use Rattle.sets.proofs.SetLaws.{first-hit, first-least}
use Rattle.redo.specs.Closure.{pages_below}
use Rattle.redo.specs.WriteGraph.{Operations, Dirty, SameGroup, LowestOfGroup}
use Rattle.redo.specs.Installation.{IsGroup}
use Rattle.redo.specs.Theorems.{OneGroupFewer, NoGroupsClean}
use Rattle.redo.proofs.GraphLaws.{reach-from, group-self, group-sym, group-trans}
use Rattle.redo.proofs.ClosureLaws.{listed_below}
use Rattle.redo.proofs.DecideLaws.{group-test, group-decides}

count-agree : (f g : ℕ → Bool) (n : ℕ) → ((q : ℕ) → q < n → f q ≡ g q) → count f n ≡ count g n
unfolding count
count-agree f g zero same = refl
count-agree f g (suc n) same = ap₂ (λ (x : ℕ) (b : Bool). x + cond b 1 0) (count-agree f g n (λ q l. same q (omega arith))) (same n (omega arith))

-- tests that agree but at l, where only the first holds
count-apart : (f g : ℕ → Bool) (l n : ℕ) → l < n → f l ≡ true → g l ≡ false → ((q : ℕ) → (q ≡ l → ⊥) → f q ≡ g q) → count f n ≡ suc (count g n)
unfolding count
count-apart f g l zero h fl gl same = absurd (omega arith)
count-apart f g l (suc n) h fl gl same = go (cases_eq n l) (count-apart f g l n)
  where
    go : (n ≡ l) ⊎ (n ≡ l → ⊥) → (l < n → f l ≡ true → g l ≡ false → ((q : ℕ) → (q ≡ l → ⊥) → f q ≡ g q) → count f n ≡ suc (count g n)) → count f (suc n) ≡ suc (count g (suc n))
    go (inl here) ih =
        let below = count-agree f g n (λ q lt. same q (λ e. omega arith)) in
        let one : ◌≡◌ {A = ℕ} (cond (f n) 1 0) 1 = cond-true (f n) 1 0 (ap f here ∙ fl) in
        let none : ◌≡◌ {A = ℕ} (cond (g n) 1 0) 0 = cond-false (g n) 1 0 (ap g here ∙ gl) in
        omega arith
    go (inr other) ih =
        let below = ih (omega arith) fl gl same in
        let level : ◌≡◌ {A = ℕ} (cond (f n) 1 0) (cond (g n) 1 0) = ap (λ b. cond b 1 0) (same n other) in
        omega arith

count-empty : (f : ℕ → Bool) (n q : ℕ) → count f n ≡ 0 → q < n → f q ≡ true → ⊥
unfolding count
count-empty f zero q e l h = omega arith
count-empty f (suc n) q e l h = elim (cases_eq q n) [
  | inl same ↦ let one : ◌≡◌ {A = ℕ} (cond (f n) 1 0) 1 = cond-true (f n) 1 0 (ap f (sym same) ∙ h) in omega arith
  | inr other ↦ count-empty f n q (omega arith) (omega arith) h
]

either_way : (a b : Bool) → (a ≡ true → b ≡ true) → (b ≡ true → a ≡ true) → a ≡ b
either_way true b ab ba = sym (ab refl)
either_way false true ab ba = ba refl
either_way false false ab ba = refl

-- the lowest page of a group
module _ (d : Operations) (p : ℕ) (G : ℕ → Bool) (small : p < 64) (dirty : Dirty d p) (is-group : IsGroup d p G) where
  lowest-page : ℕ
  lowest-page = first G 0 64

  lowest-small : lowest-page < 64
  unfolding lowest-page
  lowest-small = elim (cases_lt (first G 0 64) 64) [
    | inl l ↦ l
    | inr g ↦ absurd (both_ways (G p) (first-least G 0 64 p (omega arith) (omega arith)) ((is-group p).1 (group-self d p dirty)))
  ]

  lowest-in_group : G lowest-page ≡ true
  unfolding lowest-page
  lowest-in_group = first-hit G 0 64 (let l = lowest-small in omega arith)

  group-lowest : LowestOfGroup d lowest-page
  unfolding lowest-page
  group-lowest =
      let same = (is-group lowest-page).0 lowest-in_group in
      record {
        is_dirty = reach-from d same.0;
        least = λ x s. elim (cases_lt x (first G 0 64)) [
          | inl lt ↦ absurd (both_ways (G x) (first-least G 0 64 x (omega arith) lt) ((is-group x).1 (group-trans d x lowest-page p s same)))
          | inr ge ↦ ge
        ];
      }

pub one-group_fewer : OneGroupFewer
one-group_fewer d e n p G k j finite dirty is-group rest (f, fd, fk) (g, gd, gk) =
    fk ∙ count-apart f g l 64 (lowest-small d p G small dirty is-group) ((fd l).1 low) apart (λ q ne. either_way (f q) (g q) (stays q ne) (was q)) ∙ ap suc (sym gk)
  where
    small : p < 64
    small = finite.on_pages dirty.0 p dirty.1 dirty.2

    l : ℕ
    l = lowest-page d p G small dirty is-group

    in_g : G l ≡ true
    in_g = lowest-in_group d p G small dirty is-group

    low : LowestOfGroup d l
    low = group-lowest d p G small dirty is-group

    apart : g l ≡ false
    apart = false_from_ne_true (g l) (λ x. both_ways (G l) ((rest.dirty l).0 ((gd l).0 x).is_dirty).1 in_g)

    stays : (q : ℕ) → (q ≡ l → ⊥) → f q ≡ true → g q ≡ true
    stays q ne x =
        let lq = (fd q).0 x in
        let out : G q ≡ false = elim (cases_Bool (G q)) [
          | inl i ↦
              let same = group-trans d q p l ((is-group q).0 i) (group-sym d l p ((is-group l).0 in_g)) in
              let a = lq.least l (group-sym d q l same) in
              let b = low.least q same in
              absurd (ne (omega arith))
          | inr o ↦ o
        ] in
        (gd q).1 (record { is_dirty = (rest.dirty q).1 (lq.is_dirty, out); least = λ y s. lq.least y ((rest.groups y q).0 s).0 })

    was : (q : ℕ) → g q ≡ true → f q ≡ true
    was q x =
        let lq = (gd q).0 x in
        let dq = (rest.dirty q).0 lq.is_dirty in
        let outside : (y : ℕ) → SameGroup d y q → G y ≡ false =
        λ y s. false_from_ne_true (G y) (λ i. both_ways (G q) dq.1 ((is-group q).1 (group-trans d q y p (group-sym d y q s) ((is-group y).0 i)))) in
        (fd q).1 (record { is_dirty = dq.0; least = λ y s. lq.least y ((rest.groups y q).1 (s, outside y s)) })

pub no_groups_clean_lem : NoGroupsClean
no_groups_clean_lem d n finite (f, fd, none) p dirty =
    count-empty f 64 l (sym none) (lowest-small d p G small dirty is-group) ((fd l).1 (group-lowest d p G small dirty is-group))
  where
    small : p < 64
    small = finite.on_pages dirty.0 p dirty.1 dirty.2

    G : ℕ → Bool
    G q = group-test d n (pages_below 64) q p

    is-group : IsGroup d p G
    is-group q = group-decides d n (pages_below 64) finite.few (λ m x dm wr. listed_below 64 x (finite.on_pages m x dm wr)) q p

    l : ℕ
    l = lowest-page d p G small dirty is-group
