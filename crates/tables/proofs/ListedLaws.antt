-- Listed operations: those that write into a set, and the highest number of some.
use Rattle.std.proofs.Common.{◌≡◌, ℕ, ◌^◌, ◌<◌, ◌≤◌, max, Bool, true, ◌&&◌, ◌⊎◌, List, [], ◌∷◌, Some, None, Decides, fold, Option, sym, refl, subst, inl, inr, arith, MatchOption}
use Rattle.std.specs.List.{ContainsAt as Has, AllByRecursion, reduce}
use Rattle.std.proofs.ByRecursion.{has_append_right}
use Rattle.std.proofs.lemmas.Bool.{and_parts, and_from, cases_lt}
use Rattle.std.proofs.lemmas.Bool.Decides.{same_from_decides}
use Rattle.sets.specs.Sets.{has, Meet}
use Rattle.sets.proofs.SetLaws.{has_within}
use Rattle.redo.proofs.TestLaws.{some-from, some_at}
use Rattle.graph.specs.declared.op.Op.{Op}
use Rattle.graph.specs.Listing.{writes_inside}
use Rattle.tables.specs.DirtyOps.{higher, counted, highest_among, HighestIn}

-- an operation writes into a set if the set meets what it writes
pub writes-by_meet : (r : Bool) (o : Op) (g : ℕ) → o.writes < 2 ^ 64 → Decides r (Meet o.writes g) → r ≡ writes_inside g o
writes-by_meet r o g l d = same_from_decides r (writes_inside g o) d (there, found)
  where
    there : writes_inside g o ≡ true → Meet o.writes g
    there e =
        let k = some_at 64 (λ q. has o.writes q && has g q) e in
        let two = and_parts (has o.writes k.0) (has g k.0) k.2 in
        (k.0, two.0, two.1)

    found : Meet o.writes g → writes_inside g o ≡ true
    found m =
        some-from 64 (λ q. has o.writes q && has g q) m.0 (has_within o.writes m.0 l m.1)
        (and_from (has o.writes m.0) (has g m.0) m.1 m.2)

-- the highest of m and some numbers
top : (ns : List ℕ) (m : ℕ) → (k : ℕ) × (fold higher (Some m) ns ≡ Some k) × (m ≤ k) × AllByRecursion (λ n. n ≤ k) ns × ((k ≡ m) ⊎ Has ns k)
top [] m = (m, refl, omega arith, tt, inl refl)
top (n ∷ ns) m =
    let t = top ns (max m n) in
    let le : max m n ≤ t.0 = t.2 in (
      t.0,
      t.1,
      omega arith,
      (omega arith, t.3),
      elim t.4 [
        | inl is ↦ elim (cases_lt n m) [
          | inl old ↦ inl (omega arith)
          | inr new ↦ inr (0, omega arith, λ d. omega arith)
        ]
        | inr in' ↦ inr (has_append_right (n ∷ []) ns t.0 in')
      ],
    )

-- the highest of some numbers is one of them, and none is higher
pub highest_is : (ns : List ℕ) → MatchOption (fold higher None ns) (ns ≡ []) (λ m. Has ns m × AllByRecursion (λ n. n ≤ m) ns)
highest_is [] = refl
highest_is (n ∷ ns) =
    let t = top ns n in
    subst (λ (r : Option ℕ). MatchOption r (n ∷ ns ≡ []) (λ m. Has (n ∷ ns) m × AllByRecursion (λ x. x ≤ m) (n ∷ ns))) (sym t.1) (
      elim t.4 [
        | inl is ↦ (0, omega arith, λ d. sym is)
        | inr in' ↦ has_append_right (n ∷ []) ns t.0 in'
      ],
      (t.2, t.3),
    )

pub highest_at : (g a : ℕ) (ops : List Op) (r : Option ℕ) → r ≡ highest_among g a ops → HighestIn g a ops r
highest_at g a ops r e =
    subst (λ (x : Option ℕ). HighestIn g a ops x) (sym e) (highest_is (counted g a ops))

raised-by_max : (ns : List ℕ) (m : ℕ) → Some (fold max m ns) ≡ fold higher (Some m) ns
raised-by_max [] m = refl
raised-by_max (n ∷ ns) m = raised-by_max ns (max m n)

-- the greatest of some numbers is the highest of them
pub highest-from_max : (ns : List ℕ) → reduce max ns ≡ fold higher None ns
highest-from_max [] = refl
highest-from_max (n ∷ ns) = raised-by_max ns n
