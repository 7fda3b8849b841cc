-- The dirty operations that a slice lists.
use Rattle.std.specs.Prelude.{◌≡◌, ℕ, List, length, Decides, nat_lt, slice_index_or}
use Rattle.sets.specs.Sets.{has}
use Rattle.redo.specs.WriteGraph.{Operations, Dirty, SameGroup, LowestOfGroup}
use Rattle.graph.specs.declared.op.Op.{Op}

-- an operation that touches nothing: what a slice has past its end
abbrev pub nothing : Op
nothing = record { number = 0; reads = 0; writes = 0 }

-- the operations of a slice, by their places in it; all of them are dirty
abbrev pub dirty_ops : List Op → Operations
dirty_ops ops = record {
  dirty = λ i. nat_lt i (length ops);
  number = λ i. (slice_index_or ops i nothing).number;
  reads = λ i p. has (slice_index_or ops i nothing).reads p;
  writes = λ i p. has (slice_index_or ops i nothing).writes p;
}

-- s is the set of exactly the pages of which P holds
abbrev pub Pages : ℕ → (ℕ → Type 0) → Type 0
Pages s P = (q : ℕ) → Decides (has s q) (P q)

-- s has the lowest page of each group: each group has exactly one
pub record LowestPages (d : Operations) (s : ℕ) : Type 0 where
  pub are_lowest : Pages s (LowestOfGroup d)
  pub each_has_one : (p : ℕ) → Dirty d p → (q : ℕ) × LowestOfGroup d q × SameGroup d q p
  pub no_two : (p q : ℕ) → LowestOfGroup d p → LowestOfGroup d q → SameGroup d p q → p ≡ q
