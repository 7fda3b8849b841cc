-- The tree is the map of the puts that are left.
use Rattle.std.specs.Prelude.{◌≡◌, ℕ, ◌^◌, ◌<◌, true, cond, List, [], ◌∷◌, map, length, take, Some, None, Ok, Option, ◌==◌, ◌≢◌}
use Rattle.std.specs.List.{AllByRecursion}
use Rattle.kinds.specs.Kinds.{Bytes}
use Rattle.tree.specs.declared.step.Step.{Step}
use Rattle.tree.specs.Orders.{KeyOrdering}
use Rattle.tree.specs.Nodes.{absent, entries, full_leaf, root_form, middle_key}
use Rattle.tree.specs.Steps.{parse, sets, tree_meaning}
use Rattle.treemap.specs.Lookups.{Pages, leaf_page, lookup, get_fault}
use Rattle.treemap.specs.Plans.{gathered, stepped_by, stepped, plan, bad_page, put_fault}
use Rattle.treemap.specs.Bodies.{body_of, formed}
use Rattle.treemap.specs.Operations.{Operation, step, Left, after, value_after, puts_of}

-- what calls leave, cut anywhere, is again what calls leave
abbrev pub CutAnywhere : KeyOrdering → Type 0
CutAnywhere o = (ops : List Operation) (n : ℕ) → Left o ops → Left o (take n ops)

-- on what calls left, no lookup fails, and each finds the value of the last put of its key whose Insert is left
abbrev pub MapOfPuts : KeyOrdering → Type 0
MapOfPuts o = (ops : List Operation) → Left o ops → (k : ℕ) → (get_fault o (after o ops) k ≡ None) × (lookup o (after o ops) k ≡ puts_of ops k)

-- each of the steps is accepted, one after another
abbrev pub Accepted : KeyOrdering → List Step → Pages → Type 0
Accepted o [] s = Unit {0}
Accepted o (st ∷ sts) s = (t : Pages) × (stepped o st s ≡ Ok t) × Accepted o sts t

-- on what calls left, each step of a put is accepted
abbrev pub PutsRun : KeyOrdering → Type 0
PutsRun o = (ops : List Operation) → Left o ops → (k v : ℕ) → k < 2 ^ 32 → v < 2 ^ 32 → put_fault o (after o ops) k ≡ None → Accepted o (plan o (after o ops) k v) (after o ops)

-- on what calls left, the middle key of a full leaf under the root is not in the root
abbrev pub MiddleNew : KeyOrdering → Type 0
MiddleNew o = (ops : List Operation) → Left o ops → (k : ℕ) → root_form o (after o ops 0) ≡ true → full_leaf o (after o ops (leaf_page o (after o ops) k)) ≡ true
    → absent (middle_key (after o ops (leaf_page o (after o ops) k))) (entries (after o ops 0)) ≡ true

-- on what calls left, a put is refused only where the root is full
abbrev pub RefusedForRoom : KeyOrdering → Type 0
RefusedForRoom o = (ops : List Operation) → Left o ops → (k p : ℕ) → put_fault o (after o ops) k ≢ Some (bad_page p)

-- on any pages, the steps of a whole put count as a put of its key and value; without the last one they count as none
abbrev pub LastCounts : KeyOrdering → Type 0
LastCounts o = (s : Pages) (k v j : ℕ) (d : Option ℕ)
    → (value_after j (map step (plan o s k v)) d ≡ cond (k == j) (Some v) d) × ((n : ℕ) → n < length (plan o s k v) → value_after j (take n (map step (plan o s k v))) d ≡ d)

-- pages of 224 bytes
abbrev pub Paged : Pages → Type 0
Paged s = (p : ℕ) → p < 64 → (length (s p) ≡ 224) × Bytes (s p)

-- on any pages of 224 bytes, each step of a put that is not refused is accepted
abbrev pub PutsAccepted : KeyOrdering → Type 0
PutsAccepted o = (s : Pages) → Paged s → (k v : ℕ) → k < 2 ^ 32 → v < 2 ^ 32 → put_fault o s k ≡ None → Accepted o (plan o s k v) s

-- on any pages, each step of a put that is not refused can be said by a body
abbrev pub PlansFormed : KeyOrdering → Type 0
PlansFormed o = (s : Pages) (k v : ℕ) → k < 2 ^ 32 → v < 2 ^ 32 → put_fault o s k ≡ None → AllByRecursion (λ st. formed st ≡ true) (plan o s k v)

-- the body of a step says it
abbrev pub BodiesSay : Type 0
BodiesSay = (st : Step) → formed st ≡ true → parse (body_of st) ≡ Some st

-- what the tree kind makes of a body that says a step is what the step makes of pages of 224 bytes
abbrev pub KindSteps : KeyOrdering → Type 0
KindSteps o = (b : List ℕ) (st : Step) (s : Pages) → parse b ≡ Some st → ((p : ℕ) → p < 64 → length (s p) ≡ 224)
    → ((tree_meaning o).scope b ≡ Ok (sets st)) × (stepped o st s ≡ stepped_by (sets st).1 s ((tree_meaning o).effect b (gathered (sets st).0 s)))
