-- The table of arrows has the arrows of the theory.
use Rattle.std.proofs.Common.{◌≡◌, ℕ, ◌+◌, ◌^◌, ◌<◌, true, ◌&&◌, ◌||◌, List, length, get_or, replicate, Decides, sym, ap, ◌∙◌, subst, inl, inr, arith}
use Rattle.std.proofs.lemmas.Bool.{both_ways, cases_eq, cases_lt, or_cases, or_left, or_right, and_parts, and_from, ltb-true, lt-ltb}
use Rattle.std.proofs.lemmas.List.{get_or_past, get_or-replicate, length-replicate}
use Rattle.sets.specs.Sets.{has}
use Rattle.sets.proofs.SetLaws.{has-none, has_within}
use Rattle.redo.specs.WriteGraph.{Arrow, Dirty}
use Rattle.redo.proofs.GraphLaws.{arrow-from}
use Rattle.graph.specs.declared.op.Op.{Op}
use Rattle.graph.specs.Ops.{nothing, dirty_ops, Pages}
use Rattle.graph.specs.Rows.{row, leads, SomeBelow, Target, MakesArrow}

-- a table has the arrows that the first k operations make
pub record ArrowsBelow (ops : List Op) (k : ℕ) (rows : List ℕ) : Type 0 where
  pub long : length rows ≡ 64
  pub made : (a b : ℕ) → a < 64 → Decides (leads rows a b) (SomeBelow k (MakesArrow ops a b))
  pub within : (i p : ℕ) → i < k → has (get_or ops i nothing).writes p ≡ true → p < 64

pub arrows-none : (ops : List Op) → ArrowsBelow ops 0 (replicate 64 0)
arrows-none ops = record {
  long = length-replicate {A = ℕ} 64 0;
  made = λ a b l. (
    λ e. absurd (both_ways (has (row (replicate 64 0) a) b) (ap (λ s. has s b) (get_or-replicate 64 a 0 0 l) ∙ has-none b) e),
    λ x. let z = x.1 in absurd (omega arith),
  );
  within = λ i p l. absurd (omega arith);
}

pub arrows-more : (ops : List Op) (k : ℕ) (rows new : List ℕ) (to : ℕ) → to < 2 ^ 64 → ArrowsBelow ops k rows → length new ≡ 64 → Pages to (Target ops (get_or ops k nothing))
    → ((a b : ℕ) → a < 64 → leads new a b ≡ (leads rows a b || (has (get_or ops k nothing).writes a && has to b)))
    → ArrowsBelow ops (k + 1) new
arrows-more ops k rows new to fits was long targets spread = record { long = long; made = λ a b l. (sound a b l, complete a b l); within = within-at }
  where
    within-at : (i p : ℕ) → i < k + 1 → has (get_or ops i nothing).writes p ≡ true → p < 64
    within-at i p l wr = elim (cases_eq i k) [
      | inl same ↦ has_within to p fits ((targets p).1 (inl (subst (λ (j : ℕ). has (get_or ops j nothing).writes p ≡ true) same wr)))
      | inr other ↦ was.within i p (omega arith) wr
    ]

    sound : (a b : ℕ) → a < 64 → leads new a b ≡ true → SomeBelow (k + 1) (MakesArrow ops a b)
    sound a b l e = elim (or_cases (leads rows a b) (has (get_or ops k nothing).writes a && has to b) (sym (spread a b l) ∙ e)) [
      | inl x ↦ let i = (was.made a b l).0 x in (i.0, omega (arith, i.1), i.2)
      | inr x ↦ let u = and_parts (has (get_or ops k nothing).writes a) (has to b) x in (k, omega arith, (u.0, (targets b).0 u.1))
    ]

    complete : (a b : ℕ) → a < 64 → SomeBelow (k + 1) (MakesArrow ops a b) → leads new a b ≡ true
    complete a b l x = elim (cases_eq x.0 k) [
      | inl same ↦
          let here = subst (λ (i : ℕ). MakesArrow ops a b i) same x.2 in
          spread a b l ∙ or_right (leads rows a b) (has (get_or ops k nothing).writes a && has to b) (and_from (has (get_or ops k nothing).writes a) (has to b) here.0 ((targets b).1 here.1))
      | inr other ↦ spread a b l ∙ or_left (leads rows a b) (has (get_or ops k nothing).writes a && has to b) ((was.made a b l).1 (x.0, omega (arith, x.1), x.2))
    ]

-- what the operations make are the arrows
made-arrow : (ops : List Op) (a b : ℕ) → SomeBelow (length ops) (MakesArrow ops a b) → Arrow (dirty_ops ops) a b
made-arrow ops a b (i, l, (wa, inl wb)) = inl (record { op = i; is_dirty = lt-ltb i (length ops) l; writes_a = wa; writes_b = wb })
made-arrow ops a b (i, l, (wa, inr (j, lj, ((earlier, (x, rx, wx)), wb)))) = inr (record {
  O = i;
  P = j;
  page = x;
  o_dirty = lt-ltb i (length ops) l;
  p_dirty = lt-ltb j (length ops) lj;
  earlier = earlier;
  writes_a = wa;
  writes_b = wb;
  o_reads = rx;
  p_writes = wx;
})

arrow-made : (ops : List Op) (a b : ℕ) → Arrow (dirty_ops ops) a b → SomeBelow (length ops) (MakesArrow ops a b)
arrow-made ops a b (inl x) = (x.op, ltb-true x.op (length ops) x.is_dirty, (x.writes_a, inl x.writes_b))
arrow-made ops a b (inr x) = (
  x.O,
  ltb-true x.O (length ops) x.o_dirty,
  (x.writes_a, inr (x.P, ltb-true x.P (length ops) x.p_dirty, ((x.earlier, (x.page, x.o_reads, x.p_writes)), x.writes_b))),
)

module _ (ops : List Op) (k : ℕ) (rows : List ℕ) (all : k ≡ length ops) (below : ArrowsBelow ops k rows) where
  pub dirty-within : (p : ℕ) → Dirty (dirty_ops ops) p → p < 64
  dirty-within p (i, dirty, wr) = let l = ltb-true i (length ops) dirty in below.within i p (omega arith) wr

  pub arrows-all : (a b : ℕ) → Decides (leads rows a b) (Arrow (dirty_ops ops) a b)
  arrows-all a b = elim (cases_lt a 64) [
    | inl l ↦ let made = below.made a b l in (
      λ e. made-arrow ops a b (subst (λ (j : ℕ). SomeBelow j (MakesArrow ops a b)) all (made.0 e)),
      λ x. made.1 (subst (λ (j : ℕ). SomeBelow j (MakesArrow ops a b)) (sym all) (arrow-made ops a b x)),
    )
    | inr g ↦ (
      λ e. absurd (both_ways (leads rows a b) (ap (λ s. has s b) (get_or_past rows a 0 (let n = below.long in omega arith)) ∙ has-none b) e),
      λ x. absurd (omega (arith, dirty-within a (arrow-from (dirty_ops ops) a b x))),
    )
  ]
