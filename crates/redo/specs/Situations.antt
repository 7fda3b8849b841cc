-- Small situations, and one table of the groups and the order that the definitions give them.
use Rattle.std.specs.Prelude.{◌≡◌, ℕ, suc, ◌-◌, Bool, false, cond, ◌&&◌, ◌||◌, List, [], ◌∷◌, length, replicate, Some, Decides, ◌==◌, slice_index_or}
use Rattle.std.specs.List.{AllByRecursion}
use Rattle.redo.specs.Histories.{Page, Operation, History}
use Rattle.redo.specs.Prefixes.{Prefix, Exposed, Installed}
use Rattle.redo.specs.Recovery.{redo, redone}
use Rattle.redo.specs.WriteGraph.{Operations, operations, SameGroup, DirectlyBefore}
use Rattle.redo.specs.Installation.{joined, stored_with}

-- sets: no number, one number, two numbers, those of a list
abbrev pub none : ℕ → Bool
none q = false

abbrev pub only : ℕ → ℕ → Bool
only p q = q == p

abbrev pub either : ℕ → ℕ → ℕ → Bool
either a b q = q == a || q == b

unfoldable pub listed : List ℕ → ℕ → Bool
listed [] q = false
listed (p ∷ ps) q = q == p || listed ps q

-- fill page p with byte b; copy page s to page t; swap pages a and b
pub data Step : Type 0 where
  fill : (p b : ℕ) → Step
  copy : (s t : ℕ) → Step
  swap : (a b : ℕ) → Step

-- a fill reads nothing and a copy reads its source, a swap reads and writes both pages
abbrev pub operation_of : Step → Operation
operation_of (fill p b) = record { reads = none; writes = only p; effect = λ old. Some (λ q. replicate 224 b) }
operation_of (copy s t) = record { reads = only s; writes = only t; effect = λ old. Some (λ q. old s) }
operation_of (swap a b) = record { reads = either a b; writes = either a b; effect = λ old. Some (λ q. cond (q == a) (old b) (old a)) }

-- blank pages with number 0, and then these steps with the numbers 1, 2, ..
abbrev pub blank : ℕ → Page
blank p = record { contents = replicate 224 0; number = 0 }

abbrev pub history_of : List Step → History
history_of steps = record { start = blank; first = 1; operation = λ m. operation_of (slice_index_or steps (m - 1) (fill 0 0)) }

-- their operations, none of them installed
abbrev pub graph_of : List Step → Operations
graph_of steps = operations (history_of steps) none (suc (length steps))

-- whether one of the groups has both pages, and whether one of the pairs of groups has the one page before the other
unfoldable pub together : List (List ℕ) → ℕ → ℕ → Bool
together [] p q = false
together (g ∷ gs) p q = (listed g p && listed g q) || together gs p q

unfoldable pub in_order : List (List ℕ × List ℕ) → ℕ → ℕ → Bool
in_order [] p q = false
in_order (x ∷ xs) p q = (listed x.0 p && listed x.1 q) || in_order xs p q

-- these are the groups, and no others; this is the order among them, and no other
abbrev pub GroupsAre : Operations → List (List ℕ) → Type 0
GroupsAre d groups = (p q : ℕ) → Decides (together groups p q) (SameGroup d p q)

abbrev pub OrderIs : Operations → List (List ℕ × List ℕ) → Type 0
OrderIs d order = (p q : ℕ) → Decides (in_order order p q) (DirectlyBefore d p q)

-- a row: steps, the groups of the pages that they make dirty, and the pairs of groups of which one is directly before the other
pub record Row : Type 0 where
  pub steps : List Step
  pub groups : List (List ℕ)
  pub order : List (List ℕ × List ℕ)

abbrev pub Shows : Row → Type 0
Shows row = GroupsAre (graph_of row.steps) row.groups × OrderIs (graph_of row.steps) row.order

-- fill 40 with 5, copy 40 to 41, fill 40 with 7
abbrev pub bench : List Step
bench = fill 40 5 ∷ copy 40 41 ∷ fill 40 7 ∷ []

abbrev pub table : List Row
table =
    record { steps = fill 40 5 ∷ fill 41 5 ∷ []; groups = (40 ∷ []) ∷ (41 ∷ []) ∷ []; order = [] }
    ∷ record { steps = bench; groups = (40 ∷ []) ∷ (41 ∷ []) ∷ []; order = (41 ∷ [], 40 ∷ []) ∷ [] }
    ∷ record { steps = copy 40 41 ∷ copy 41 40 ∷ []; groups = (40 ∷ []) ∷ (41 ∷ []) ∷ []; order = (41 ∷ [], 40 ∷ []) ∷ [] }
    ∷ record { steps = copy 40 41 ∷ copy 41 40 ∷ fill 41 5 ∷ []; groups = (40 ∷ 41 ∷ []) ∷ []; order = [] }
    ∷ record { steps = swap 50 51 ∷ []; groups = (50 ∷ 51 ∷ []) ∷ []; order = [] }
    ∷ []

-- the bench history, and its stored pages once page 41 is installed
abbrev pub bench_history : History
bench_history = history_of bench

abbrev pub with_41 : ℕ → Page
with_41 = stored_with bench_history 4 (only 41) blank

-- what then holds
pub record Once41Installed : Type 0 where
  -- operation 2 alone is installed, and it is a prefix
  pub joins : (m : ℕ) → joined bench_history none 4 (only 41) m ≡ only 2 m
  pub is_prefix : Prefix bench_history (only 2) 4
  pub installed : Installed bench_history (only 2) 4 with_41
  -- page 40 is not exposed, and page 41 is
  pub hides_40 : Exposed bench_history (only 2) 4 40 → ⊥
  pub exposes_41 : Exposed bench_history (only 2) 4 41
  -- operations 1 and 3 are redone, and both pages come back
  pub redoes : redone bench_history 4 with_41 ≡ 1 ∷ 3 ∷ []
  pub page_40 : redo bench_history 4 with_41 40 ≡ record { contents = replicate 224 7; number = 3 }
  pub page_41 : redo bench_history 4 with_41 41 ≡ record { contents = replicate 224 5; number = 2 }

-- every row of the table shows the groups and the order of its steps
abbrev pub SituationsShown : Type 0
SituationsShown = AllByRecursion Shows table × Once41Installed
