-- Where a page is dirty, some group has none directly before it.
use Rattle.std.proofs.Common.{ℕ, zero, suc, ◌<◌, Bool, Decides, inl, inr, arith}
use Rattle.std.proofs.lemmas.Bool.{both_ways, cases_eq, cases_Bool}
use Rattle.redo.specs.WriteGraph.{Operations, Reaches, Dirty, Finite}
use Rattle.redo.specs.Theorems.{SomeReady}
use Rattle.redo.proofs.GraphLaws.{reach-trans, reach-from, directly_reaches}
use Rattle.redo.proofs.ClosureLaws.{listed_below}
use Rattle.redo.specs.Closure.{pages_below}
use Rattle.redo.proofs.DecideLaws as decide

module _ (d : Operations) (n : ℕ) (finite : Finite d n) where
  dirty-page : (p : ℕ) → Dirty d p → p < 64
  dirty-page p (m, dirty, wr) = finite.on_pages m p dirty wr

  reach-test : ℕ → ℕ → Bool
  reach-test = decide.reach-test d n (pages_below 64)

  reach-decides : (a b : ℕ) → Decides (reach-test a b) (Reaches d a b)
  unfolding reach-test
  reach-decides = decide.reach-decides d n (pages_below 64) finite.few (λ m p dirty wr. listed_below 64 p (finite.on_pages m p dirty wr))

  -- one scan of the pages, keeping the best so far: whatever of the pages below k reaches it, it reaches too
  best : (k p : ℕ) → Dirty d p → (q : ℕ) × Dirty d q × ((x : ℕ) → x < k → Reaches d x q → Reaches d q x)
  best zero p dirty = (p, dirty, λ x l s. absurd (omega arith))
  best (suc k) p dirty = go (best k p dirty)
    where
      go : ((q : ℕ) × Dirty d q × ((x : ℕ) → x < k → Reaches d x q → Reaches d q x)) → (q : ℕ) × Dirty d q × ((x : ℕ) → x < suc k → Reaches d x q → Reaches d q x)
      go (q, dq, all) = elim (cases_Bool (reach-test k q)) [
        | inl to ↦ elim (cases_Bool (reach-test q k)) [
          | inl back ↦ (q, dq, λ x l s. elim (cases_eq x k) [ inl same ↦ rw same ((reach-decides q k).0 back) | inr other ↦ all x (omega arith) s ])
          | inr none ↦
              let s = (reach-decides k q).0 to in (
                k,
                reach-from d s,
                λ x l t. elim (cases_eq x k) [
                  | inl same ↦ rw same (rw same at t)
                  | inr other ↦ reach-trans d s (all x (omega arith) (reach-trans d t s))
                ],
              )
        ]
        | inr none ↦ (
          q,
          dq,
          λ x l s. elim (cases_eq x k) [
            | inl same ↦ absurd (both_ways (reach-test k q) none ((reach-decides k q).1 (rw same at s)))
            | inr other ↦ all x (omega arith) s
          ],
        )
      ]

pub some_ready : SomeReady
some_ready d n p finite dirty =
    let b = best d n finite 64 p dirty in (
      b.0,
      record {
        is_dirty = b.1;
        none_before = λ x before.
            let s = directly_reaches d x b.0 before in
            before.apart (s, b.2 x (dirty-page d n finite x (reach-from d s)) s);
      },
    )
