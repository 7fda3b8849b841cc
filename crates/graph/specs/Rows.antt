-- Tables of rows: row a is the set of the pages that page a leads to.
use Rattle.std.specs.Prelude.{◌≡◌, ℕ, ◌<◌, ◌≤◌, Bool, true, ◌&&◌, ◌⊎◌, List, length, slice_index, slice_index_or}
use Rattle.sets.specs.Sets.{has, Meet}
use Rattle.graph.specs.declared.op.Op.{Op}
use Rattle.graph.specs.Ops.{nothing}

-- row a of a table, and whether it leads from page a to page b
abbrev pub row : List ℕ → ℕ → ℕ
row rows a = slice_index rows a

abbrev pub leads : List ℕ → ℕ → ℕ → Bool
leads rows a b = has (row rows a) b

-- P holds of some number below k
abbrev pub SomeBelow : ℕ → (ℕ → Type 0) → Type 0
SomeBelow k P = (i : ℕ) × (i < k) × P i

-- o is earlier than p and reads a page that p writes
abbrev pub ReadsFirst : Op → Op → Type 0
ReadsFirst o p = (o.number < p.number) × Meet o.reads p.writes

-- operation i of a list is such a p, and writes page b
abbrev pub Hit : List Op → Op → ℕ → ℕ → Type 0
Hit ops o b i = ReadsFirst o (slice_index_or ops i nothing) × (has (slice_index_or ops i nothing).writes b ≡ true)

-- an arrow leads to page b from each page that o writes: o writes b, or some p of the list does that o reads before
abbrev pub Target : List Op → Op → ℕ → Type 0
Target ops o b = (has o.writes b ≡ true) ⊎ SomeBelow (length ops) (Hit ops o b)

-- operation i of a list makes an arrow from page a to page b
abbrev pub MakesArrow : List Op → ℕ → ℕ → ℕ → Type 0
MakesArrow ops a b i = (has (slice_index_or ops i nothing).writes a ≡ true) × Target ops (slice_index_or ops i nothing) b

-- by a table of what reaches what: whether pages p and q reach each other
abbrev pub mutual_reach : List ℕ → ℕ → ℕ → Bool
mutual_reach reach p q = leads reach p q && leads reach q p

-- page p is in the set, and page q in its group
abbrev pub InGroupOf : List ℕ → ℕ → ℕ → ℕ → Type 0
InGroupOf reach set q p = (has set p ≡ true) × (mutual_reach reach p q ≡ true)

-- page p is the lowest of its group
abbrev pub LeadsGroup : List ℕ → ℕ → Type 0
LeadsGroup reach p = (mutual_reach reach p p ≡ true) × ((x : ℕ) → x < 64 → mutual_reach reach p x ≡ true → p ≤ x)
