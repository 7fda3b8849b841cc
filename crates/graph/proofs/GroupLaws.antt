-- Sets of pages that a table of rows gives.
use Rattle.std.proofs.Common.{◌≡◌, ℕ, ◌<◌, ◌≤◌, true, false, ◌&&◌, eqb, ltb, List, length, get_or, Decides, sym, refl, ap, ◌∙◌, subst, ap₂, inl, inr, arith}
use Rattle.std.proofs.lemmas.Bool.{both_ways, cases_lt, and_parts, and_from, and_left, eqb-true, eq-eqb, ltb-true, lt-ltb}
use Rattle.std.proofs.lemmas.Bool.Decides.{same_from_decides}
use Rattle.std.proofs.lemmas.List.{get_or_past}
use Rattle.sets.specs.Sets.{has, SetOf, Meet, lowest}
use Rattle.sets.proofs.SetLaws.{has-none, first-hit, lowest-in}
use Rattle.redo.specs.WriteGraph.{Dirty}
use Rattle.graph.specs.declared.op.Op.{Op}
use Rattle.graph.specs.Ops.{nothing, dirty_ops, Pages}
use Rattle.graph.specs.Rows.{row, leads, SomeBelow, mutual_reach, LeadsGroup}

pub written-dirty : (ops : List Op) (s : ℕ) → Pages s (λ b. SomeBelow (length ops) (λ i. has (get_or ops i nothing).writes b ≡ true)) → Pages s (Dirty (dirty_ops ops))
written-dirty ops s pages q = (
  λ e. let x = (pages q).0 e in (x.0, lt-ltb x.0 (length ops) x.1, x.2),
  λ x. (pages q).1 (x.0, ltb-true x.0 (length ops) x.1, x.2),
)

-- a table has no rows past the last page
pub row-past : (rows : List ℕ) (a b : ℕ) → length rows ≡ 64 → 64 ≤ a → leads rows a b ≡ false
row-past rows a b n l = ap (λ s. has s b) (get_or_past rows a 0 (omega arith)) ∙ has-none b

pub row-within : (rows : List ℕ) (a b : ℕ) → length rows ≡ 64 → leads rows a b ≡ true → a < 64
row-within rows a b n e = elim (cases_lt a 64) [ inl l ↦ l | inr g ↦ absurd (both_ways (leads rows a b) (row-past rows a b n g) e) ]

-- the group of a page, by a table of what reaches what
pub group-pages : (reach : List ℕ) (page here one into r : ℕ) → length reach ≡ 64 → here ≡ row reach page → SetOf one (λ q. eqb q page && ltb page 64)
    → Pages into (λ q. Meet (row reach q) one) → SetOf r (λ q. has here q && has into q) → SetOf r (mutual_reach reach page)
group-pages reach page here one into r n is_row is_one sources both q = elim (cases_lt page 64) [
  | inl l ↦ both q ∙ ap₂ ◌&&◌ (ap (λ s. has s q) is_row) (same_from_decides (has into q) (leads reach q page) (sources q) (meets_one l))
  | inr g ↦
      let none : leads reach page q ≡ false = row-past reach page q n g in
      both q ∙ and_left (has here q) (has into q) (ap (λ s. has s q) is_row ∙ none) ∙ sym (and_left (leads reach page q) (leads reach q page) none)
]
  where
    meets_one : page < 64 → Decides (leads reach q page) (Meet (row reach q) one)
    meets_one l = (
      λ e. (page, e, is_one page ∙ and_from (eqb page page) (ltb page 64) (eq-eqb page page refl) (lt-ltb page 64 l)),
      λ m. subst (λ (x : ℕ). leads reach q x ≡ true) (eqb-true m.0 page (and_parts (eqb m.0 page) (ltb page 64) (sym (is_one m.0) ∙ m.2)).0) m.1,
    )

-- the lowest page of a group
pub lowest-leads : (reach : List ℕ) (g p : ℕ) → SetOf g (mutual_reach reach p) → p < 64 → lowest g ≡ p → LeadsGroup reach p
lowest-leads reach g p is-group l e = (
  sym (is-group p) ∙ subst (λ (x : ℕ). has g x ≡ true) e (first-hit (has g) 0 64 (omega arith)),
  λ x lx m. let low = (lowest-in g x lx (is-group x ∙ m)).0 in omega arith,
)

pub leads-lowest : (reach : List ℕ) (g p : ℕ) → SetOf g (mutual_reach reach p) → p < 64 → LeadsGroup reach p → lowest g ≡ p
leads-lowest reach g p is-group l leads =
    let low = lowest-in g p l (is-group p ∙ leads.0) in
    let le = low.0 in
    let ge = leads.1 (lowest g) (omega arith) (sym (is-group (lowest g)) ∙ low.1) in
    omega arith

-- the pages that lead their groups, by that test
pub leaders-all : (reach : List ℕ) (s : ℕ) → ((q : ℕ) → has s q ≡ true → q < 64)
    → ((q : ℕ) → q < 64 → (g : ℕ) × SetOf g (mutual_reach reach q) × (has s q ≡ eqb (lowest g) q))
    → Pages s (λ q. SomeBelow 64 (λ p. (q ≡ p) × LeadsGroup reach p))
leaders-all reach s within tested q = (
  λ e. let l = within q e in
      let t = tested q l in
      (q, l, (refl, lowest-leads reach t.0 q t.1 l (eqb-true (lowest t.0) q (sym t.2 ∙ e)))),
  λ x. let t = tested x.0 x.1 in
      subst (λ (p : ℕ). has s p ≡ true) (sym x.2.0) (t.2 ∙ eq-eqb (lowest t.0) x.0 (leads-lowest reach t.0 x.0 t.1 x.1 x.2.1)),
)
