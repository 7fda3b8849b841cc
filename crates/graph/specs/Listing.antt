-- A list of the dirty operations of a history.
use Rattle.std.specs.Prelude.{◌≡◌, ℕ, suc, ◌≤◌, Bool, false, not, ◌&&◌, List, [], ◌∷◌, ◌++◌, map, filter}
use Rattle.std.specs.List.{AllByRecursion}
use Rattle.sets.specs.Sets.{has, rising}
use Rattle.redo.specs.Histories.{page_count, Operation, History, reads, writes}
use Rattle.redo.specs.Prefixes.{uninstalled}
use Rattle.redo.specs.Recovery.{some}
use Rattle.redo.specs.WriteGraph.{operations}
use Rattle.redo.specs.Installation.{joined, extended}
use Rattle.redo.specs.Theorems.{SameGraph}
use Rattle.graph.specs.declared.op.Op.{Op}
use Rattle.graph.specs.Ops.{dirty_ops}

-- the sets of o are those of the operation that bears its number
abbrev pub ScopeOf : History → Op → Type 0
ScopeOf h o = ((p : ℕ) → has o.reads p ≡ reads h o.number p) × ((p : ℕ) → has o.writes p ≡ writes h o.number p)

-- the list has exactly the dirty operations of the history below n, by rising number
pub record Lists (ops : List Op) (h : History) (I : ℕ → Bool) (n : ℕ) : Type 0 where
  pub numbers : map (λ (o : Op). o.number) ops ≡ rising (uninstalled h I n) n
  pub scopes : AllByRecursion (ScopeOf h) ops

-- whether o writes a page of the set g
abbrev pub writes_inside : ℕ → Op → Bool
writes_inside g o = some page_count (λ q. has o.writes q && has g q)

-- such a list has the groups of the history, and their order
abbrev pub ListedGraph : Type 0
ListedGraph = (ops : List Op) (h : History) (I : ℕ → Bool) (n : ℕ) → Lists ops h I n → SameGraph (dirty_ops ops) (operations h I n)

-- an operation that runs comes at the end
abbrev pub ListedRun : Type 0
ListedRun =
    (ops : List Op) (h : History) (I : ℕ → Bool) (n : ℕ) (o : Op) (op : Operation) → Lists ops h I n
    → h.first ≤ n → I n ≡ false → o.number ≡ n → ((p : ℕ) → has o.reads p ≡ op.reads p) → ((p : ℕ) → has o.writes p ≡ op.writes p)
    → Lists (ops ++ o ∷ []) (extended h n op) I (suc n)

-- what writes into an installed group goes
abbrev pub ListedInstall : Type 0
ListedInstall =
    (ops : List Op) (h : History) (I : ℕ → Bool) (n g : ℕ) → Lists ops h I n → Lists (filter (λ o. not (writes_inside g o)) ops) h (joined h I n (has g)) n
