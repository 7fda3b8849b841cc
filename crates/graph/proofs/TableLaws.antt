-- The tables of arrows and of reach give groups and their order as the theory has them.
use Rattle.std.proofs.Common.{◌≡◌, ℕ, ◌^◌, ◌<◌, ◌≤◌, true, false, not, ◌&&◌, List, length, Decides, sym, refl, ◌∙◌, subst, inl, inr, arith}
use Rattle.std.proofs.lemmas.Bool.{both_ways, cases_lt, cases_Bool, and_parts, and_from, not-true, not_from_false}
use Rattle.std.proofs.lemmas.Bool.Decides.{Decides-at, Decides-and}
use Rattle.sets.specs.Sets.{has, SetOf, Meet, first}
use Rattle.sets.proofs.SetLaws.{first-hit, first-least}
use Rattle.redo.specs.WriteGraph.{Operations, Arrow, Reaches, Dirty, SameGroup, DirectlyBefore, LowestOfGroup}
use Rattle.redo.specs.Closure.{via, pages_below}
use Rattle.redo.proofs.ClosureLaws.{listed_below, via-decides}
use Rattle.redo.proofs.GraphLaws.{arrow-from, arrow-to, reach-from, reach-to, group-self, group-sym, group-trans}
use Rattle.graph.specs.Ops.{Pages, LowestPages}
use Rattle.graph.specs.Rows.{row, leads, SomeBelow, mutual_reach, InGroupOf, LeadsGroup}
use Rattle.graph.proofs.RowLaws.{pages-empty}
use Rattle.graph.proofs.GroupLaws.{row-past}

module _ (d : Operations) (arrows reach : List ℕ) (made : (a b : ℕ) → Decides (leads arrows a b) (Arrow d a b)) (within : (p : ℕ) → Dirty d p → p < 64)
    (long : length reach ≡ 64) (closed : (a b : ℕ) → a < 64 → leads reach a b ≡ via (leads arrows) (pages_below 64) a b) where
  pub reach-table : (a b : ℕ) → Decides (leads reach a b) (Reaches d a b)
  reach-table a b = elim (cases_lt a 64) [
    | inl l ↦ Decides-at (leads reach a b) (via (leads arrows) (pages_below 64) a b) (closed a b l)
        (via-decides d (leads arrows) made (pages_below 64) (λ x y ar. listed_below 64 y (within y (arrow-to d x y ar))) a b)
    | inr g ↦ (
      λ e. absurd (both_ways (leads reach a b) (row-past reach a b long g) e),
      λ s. absurd (omega (arith, within a (reach-from d s))),
    )
  ]

  pub group-table : (p q : ℕ) → Decides (mutual_reach reach p q) (SameGroup d q p)
  group-table p q =
      let both = Decides-and (leads reach p q) (leads reach q p) (reach-table p q) (reach-table q p) in
      (λ e. let s = both.0 e in (s.1, s.0), λ s. both.1 (s.1, s.0))

  pub group-all : (page r : ℕ) → SetOf r (mutual_reach reach page) → Pages r (λ q. SameGroup d q page)
  group-all page r is q = Decides-at (has r q) (mutual_reach reach page q) (is q) (group-table page q)

  -- the groups directly before: those of the pages outside the group from which arrows lead into it
  pub before-all : (page g into from r : ℕ) → SetOf g (mutual_reach reach page) → Pages into (λ x. Meet (row arrows x) g)
      → SetOf from (λ x. has into x && not (has g x)) → Pages r (λ q. SomeBelow 64 (InGroupOf reach from q)) → Pages r (λ q. DirectlyBefore d q page)
  before-all page g into from r is-g is-into is-from is-r q = (sound, complete)
    where
      sound : has r q ≡ true → DirectlyBefore d q page
      sound e =
          let x = (is-r q).0 e in
          let p = x.0 in
          let parts = and_parts (has into p) (not (has g p)) (sym (is-from p) ∙ x.2.0) in
          let m = (is-into p).0 parts.0 in
          let same = (group-table p q).0 x.2.1 in
          record {
            from = p;
            to = m.0;
            from_group = same;
            arrow = (made p m.0).0 m.1;
            to_group = (group-all page g is-g m.0).0 m.2;
            apart = λ s. both_ways (has g p) (not-true (has g p) parts.1) ((group-all page g is-g p).1 (group-trans d p q page (group-sym d q p same) s));
          }

      complete : DirectlyBefore d q page → has r q ≡ true
      complete x =
          let p = x.from in
          let outside : has g p ≡ false = elim (cases_Bool (has g p)) [
            | inl in-it ↦ absurd (x.apart (group-trans d q p page x.from_group ((group-all page g is-g p).0 in-it)))
            | inr o ↦ o
          ] in
          let leads-in : has into p ≡ true = (is-into p).1 (x.to, (made p x.to).1 x.arrow, (group-all page g is-g x.to).1 x.to_group) in
          (is-r q).1 (
            p,
            within p (arrow-from d p x.to x.arrow),
            (is-from p ∙ and_from (has into p) (not (has g p)) leads-in (not_from_false (has g p) outside), (group-table p q).1 x.from_group),
          )

  -- lowest pages
  leads-lowest : (p : ℕ) → LeadsGroup reach p → LowestOfGroup d p
  leads-lowest p x = record {
    is_dirty = reach-from d ((group-table p p).0 x.0).0;
    least = λ q s. x.1 q (within q (reach-from d s.0)) ((group-table p q).1 s);
  }

  lowest-leads : (p : ℕ) → LowestOfGroup d p → LeadsGroup reach p
  lowest-leads p x = ((group-table p p).1 (group-self d p x.is_dirty), λ q _ m. x.least q ((group-table p q).0 m))

  -- the lowest page of the group of a dirty page
  has-lowest : (p : ℕ) → Dirty d p → (q : ℕ) × LowestOfGroup d q × SameGroup d q p
  has-lowest p dirty =
      let f = mutual_reach reach p in
      let low = first f 0 64 in
      let l = within p dirty in
      let hit-p : f p ≡ true = (group-table p p).1 (group-self d p dirty) in
      let le : low ≤ p = elim (cases_lt p low) [
        | inl lt ↦ absurd (both_ways (f p) (first-least f 0 64 p (omega arith) lt) hit-p)
        | inr ge ↦ ge
      ] in
      let same : SameGroup d low p = (group-table p low).0 (first-hit f 0 64 (omega arith)) in (
        low,
        record {
          is_dirty = reach-from d same.0;
          least = λ x s. elim (cases_lt x low) [
            | inl lt ↦ absurd (both_ways (f x) (first-least f 0 64 x (omega arith) lt) ((group-table p x).1 (group-trans d x low p s same)))
            | inr ge ↦ ge
          ];
        },
        same,
      )

  pub lowest-all : (r : ℕ) → Pages r (λ q. SomeBelow 64 (λ p. (q ≡ p) × LeadsGroup reach p)) → LowestPages d r
  lowest-all r is = record {
    are_lowest = λ q. (
      λ e. let x = (is q).0 e in leads-lowest q (subst (λ (p : ℕ). LeadsGroup reach p) (sym x.2.0) x.2.1),
      λ x. (is q).1 (q, within q x.is_dirty, (refl, lowest-leads q x)),
    );
    each_has_one = has-lowest;
    no_two = λ p q x y s. let a = x.least q (group-sym d p q s) in let b = y.least p s in omega arith;
  }

-- a page of a group, or with a group before its own, is dirty
pub group-clean : (d : Operations) (page r : ℕ) → r < 2 ^ 64 → Pages r (λ q. SameGroup d q page) → (Dirty d page → ⊥) → r ≡ 0
group-clean d page r small pages clean = pages-empty (λ q. SameGroup d q page) r small pages (λ q s. clean (reach-to d s.0))

pub before-clean : (d : Operations) (page r : ℕ) → r < 2 ^ 64 → Pages r (λ q. DirectlyBefore d q page) → (Dirty d page → ⊥) → r ≡ 0
before-clean d page r small pages clean = pages-empty (λ q. DirectlyBefore d q page) r small pages (λ q x. clean (reach-to d x.to_group.0))
