-- Folds that gather pages, and loops that renew a table row by row.
use Rattle.std.proofs.Common.{◌≡◌, ℕ, ◌+◌, ◌^◌, ◌<◌, ◌≤◌, true, ◌||◌, List, [], ◌∷◌, ◌++◌, Option, zero-add, Decides, length, get_or, sym, refl, ap, ◌∙◌, subst, inl, inr, arith}
use denote.Param.Members.{Mut}
use Rattle.std.specs.Fn.{Called}
use Rattle.std.specs.declared.ops.Range.{Range}
use Rattle.std.specs.declared.slice.Iter.{Iter}
use Rattle.std.proofs.iter.Yields.{fronts, nat_range_steps}
use Rattle.std.specs.Slice.Iter.{iter_rest}
use denote.Ref.{Bor}
use Rattle.std.specs.Iterator.{FoldsItems}
use Rattle.std.specs.List.{range_with_len}
use Rattle.std.proofs.Math.ListN.{get_or-append}
use Rattle.std.proofs.Math.Seq.{get_or-append_seam}
use Rattle.std.proofs.lemmas.Fn.{fold_over}
use Rattle.std.proofs.lemmas.Iterator.{YieldsList, YieldsList-from_slice, YieldsList-from_range}
use Rattle.std.proofs.lemmas.List.{length-append}
use Rattle.std.proofs.lemmas.List.FromFn.{get_or-range_with_len}
use Rattle.std.proofs.lemmas.Bool.{both_ways, cases_Bool, cases_lt, or_cases, or_left, or_right}
use Rattle.sets.specs.Sets.{has, SetOf}
use Rattle.sets.proofs.SetLaws.{has-none, none_only}
use Rattle.graph.specs.Ops.{Pages}
use Rattle.graph.specs.Rows.{row, SomeBelow}

-- the empty set has the pages of which nothing holds
pub pages-none : (P : ℕ → Type 0) → ((q : ℕ) → P q → ⊥) → Pages 0 P
pages-none P never q = (λ e. absurd (both_ways (has 0 q) (has-none q) e), λ x. absurd (never q x))

-- s has the pages that some item of a list gives: page b comes with item x where P b x
abbrev pub Gathered : {B : Type 0} → B → (ℕ → B → Type 0) → List B → ℕ → Type 0
Gathered d P xs s = Pages s (λ b. SomeBelow (length xs) (λ i. P b (get_or xs i d)))

-- one more item, and the pages that it gives
gather-more : {B : Type 0} (d : B) (P : ℕ → B → Type 0) (xs : List B) (x : B) (s t r : ℕ) → Gathered d P xs s → Pages t (λ b. P b x) → SetOf r (λ b. has s b || has t b)
    → Gathered d P (xs ++ x ∷ []) r
gather-more {B} d P xs x s t r old new union b = (sound, complete)
  where
    n : length (xs ++ x ∷ []) ≡ length xs + 1
    n = length-append xs (x ∷ [])

    sound : has r b ≡ true → SomeBelow (length (xs ++ x ∷ [])) (λ i. P b (get_or (xs ++ x ∷ []) i d))
    sound e = elim (or_cases (has s b) (has t b) (sym (union b) ∙ e)) [
      | inl y ↦ let i = (old b).0 y in (i.0, omega (arith, i.1, n), subst (λ (z : B). P b z) (sym (get_or-append xs (x ∷ []) d i.0 i.1)) i.2)
      | inr y ↦ (length xs, omega (arith, n), subst (λ (z : B). P b z) (sym (get_or-append_seam xs x [] d)) ((new b).0 y))
    ]

    complete : SomeBelow (length (xs ++ x ∷ [])) (λ i. P b (get_or (xs ++ x ∷ []) i d)) → has r b ≡ true
    complete (i, l, h) = elim (cases_lt i (length xs)) [
      | inl below ↦ union b ∙ or_left (has s b) (has t b) ((old b).1 (i, below, subst (λ (z : B). P b z) (get_or-append xs (x ∷ []) d i below) h))
      | inr past ↦
          let last : i ≡ length xs = omega (arith, l, n) in
          union b ∙ or_right (has s b) (has t b) ((new b).1 (subst (λ (z : B). P b z) (ap (λ j. get_or (xs ++ x ∷ []) j d) last ∙ get_or-append_seam xs x [] d) h))
    ]

-- what a closure does that adds the pages that an item x gives: those are the pages b where P b x
abbrev pub Adds : {A F : Type 0} → Mut F (ℕ × (A × Unit {0})) ℕ → F → (ℕ → A → Type 0) → Type 0
Adds {A} {F} g f P = (s : ℕ) (x : A) (r : ℕ) (f' : F) → Called g f (s, (x, tt)) r f' → ((t : ℕ) × Pages t (λ b. P b x) × SetOf r (λ b. has s b || has t b)) × (f' ≡ f)

-- a fold that adds them for each item
gathered : {S A B F : Type 0} (steps : S → Option A → S → Type 0) (v : A → B) (g : Mut F (ℕ × (A × Unit {0})) ℕ) (f : F) (d : B) (P : ℕ → B → Type 0)
    → Adds g f (λ b x. P b (v x)) → (s : S) (all : List B) (r : ℕ) → YieldsList steps v s all → FoldsItems steps g s f 0 r → Gathered d P all r
gathered {S} {A} {B} {F} steps v g f d P adds s all r from ran = fold_over steps v g (Gathered d P) f more s all 0 r from.runs none ran
  where
    none : Gathered d P [] 0
    none = pages-none (λ b. SomeBelow 0 (λ i. P b (get_or [] i d))) (λ q x. let l = x.1 in omega arith)

    more : (ys : List B) (a : ℕ) (x : A) (b : ℕ) (f' : F) → Gathered d P ys a → Called g f (a, (x, tt)) b f' → Gathered d P (ys ++ (v x ∷ [])) b × (f' ≡ f)
    more ys a x b f' old call = let o = adds a x b f' call in (gather-more d P ys (v x) a o.0.0 b old o.0.1 o.0.2, o.1)

-- over a slice
pub gathered-items : {A F : Type 0} (g : Mut F (ℕ × (Bor A × Unit {0})) ℕ) (f : F) (d : A) (P : ℕ → A → Type 0) → Adds g f (λ b x. P b x.now)
    → (s : Iter A) (all : List A) (r : ℕ) → iter_rest s ≡ all → FoldsItems fronts g s f 0 r → Gathered d P all r
gathered-items g f d P adds s all r e ran = gathered fronts (λ y. y.now) g f d P adds s all r (YieldsList-from_slice all e) ran

-- over the pages
pub gathered-pages : {F : Type 0} (g : Mut F (ℕ × (ℕ × Unit {0})) ℕ) (f : F) (P : ℕ → ℕ → Type 0) → Adds g f P
    → (s : Range ℕ) (r : ℕ) → s ≡ record { start = 0; end = 64 } → FoldsItems nat_range_steps g s f 0 r → Pages r (λ b. SomeBelow 64 (P b))
gathered-pages g f P adds s r e ran b = (
  λ h. let i = all.0 h in (i.0, i.1, subst (λ (z : ℕ). P b z) (get_or-range_with_len 0 64 i.0 0 i.1 ∙ zero-add i.0) i.2),
  λ i. all.1 (i.0, i.1, subst (λ (z : ℕ). P b z) (sym (get_or-range_with_len 0 64 i.0 0 i.1 ∙ zero-add i.0)) i.2),
)
  where
    all : Decides (has r b) (SomeBelow 64 (λ i. P b (get_or (range_with_len 0 64) i 0)))
    all = gathered nat_range_steps (λ x. x) g f 0 P adds s (range_with_len 0 64) r (YieldsList-from_range 0 64 64 e refl) ran b

-- a table in which R holds of each row below i as it was and as it is, and the others are as they were
pub record Renewed (R : ℕ → ℕ → ℕ → Type 0) (old : List ℕ) (i : ℕ) (new : List ℕ) : Type 0 where
  pub long : length new ≡ 64
  pub done : (a : ℕ) → a < i → R a (row old a) (row new a)
  pub left : (a : ℕ) → i ≤ a → row new a ≡ row old a

-- a set that is tested at the pages, by what holds of none but pages
pub pages-tested : (P : ℕ → Type 0) (s : ℕ) → ((q : ℕ) → has s q ≡ true → q < 64) → ((q : ℕ) → P q → q < 64) → ((q : ℕ) → q < 64 → Decides (has s q) (P q)) → Pages s P
pages-tested P s within only tested q = (λ e. (tested q (within q e)).0 e, λ x. (tested q (only q x)).1 x)

-- where nothing holds of any page, the set is empty
pub pages-empty : (P : ℕ → Type 0) (s : ℕ) → s < 2 ^ 64 → Pages s P → ((q : ℕ) → P q → ⊥) → s ≡ 0
pages-empty P s small pages never = none_only s small (λ q. elim (cases_Bool (has s q)) [ inl e ↦ absurd (never q ((pages q).0 e)) | inr o ↦ o ])
