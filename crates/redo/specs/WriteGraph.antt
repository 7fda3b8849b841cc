-- The write graph: arrows between pages over the dirty operations, and the groups of pages that must be installed together.
use Rattle.std.specs.Prelude.{◌≡◌, ℕ, ◌<◌, ◌≤◌, Bool, true, ◌⊎◌, Decides}
use Rattle.sets.specs.Sets.{count}
use Rattle.redo.specs.Histories.{page_count, History, reads, writes}
use Rattle.redo.specs.Prefixes.{uninstalled}

-- some operations, known by their places: which of them are dirty, their numbers, and the pages that they read and write
pub record Operations : Type 0 where
  pub dirty : ℕ → Bool
  pub number : ℕ → ℕ
  pub reads : ℕ → ℕ → Bool
  pub writes : ℕ → ℕ → Bool

-- the operations of a history below n; those that are not installed are dirty
abbrev pub operations : History → (ℕ → Bool) → ℕ → Operations
operations h I n = record { dirty = uninstalled h I n; number = λ m. m; reads = reads h; writes = writes h }

-- one dirty operation writes both pages
pub record WritesBoth (d : Operations) (a b : ℕ) : Type 0 where
  pub op : ℕ
  pub is_dirty : d.dirty op ≡ true
  pub writes_a : d.writes op a ≡ true
  pub writes_b : d.writes op b ≡ true

-- dirty O is earlier than dirty P, O writes a, P writes b, and O reads a page that P writes
pub record ReadsBefore (d : Operations) (a b : ℕ) : Type 0 where
  pub O : ℕ
  pub P : ℕ
  pub page : ℕ
  pub o_dirty : d.dirty O ≡ true
  pub p_dirty : d.dirty P ≡ true
  pub earlier : d.number O < d.number P
  pub writes_a : d.writes O a ≡ true
  pub writes_b : d.writes P b ≡ true
  pub o_reads : d.reads O page ≡ true
  pub p_writes : d.writes P page ≡ true

-- an arrow leads from page a to page b: a must not be stored later than b
abbrev pub Arrow : Operations → ℕ → ℕ → Type 0
Arrow d a b = WritesBoth d a b ⊎ ReadsBefore d a b

-- arrows lead from page a to page b, one or more
pub data Reaches (d : Operations) : ℕ → ℕ → Type 0 where
  one : {a b : ℕ} → Arrow d a b → Reaches d a b
  more : {a b c : ℕ} → Arrow d a b → Reaches d b c → Reaches d a c

-- a page is dirty when a dirty operation writes it
abbrev pub Dirty : Operations → ℕ → Type 0
Dirty d p = (m : ℕ) × (d.dirty m ≡ true) × (d.writes m p ≡ true)

-- two pages are in one group exactly when each reaches the other
abbrev pub SameGroup : Operations → ℕ → ℕ → Type 0
SameGroup d a b = Reaches d a b × Reaches d b a

-- the group of page a is directly before the group of page b: they are two groups, and an arrow leads from the one to the other
pub record DirectlyBefore (d : Operations) (a b : ℕ) : Type 0 where
  pub from : ℕ
  pub to : ℕ
  pub from_group : SameGroup d a from
  pub arrow : Arrow d from to
  pub to_group : SameGroup d to b
  pub apart : SameGroup d a b → ⊥

-- one or more such steps lead from the group of a to the group of b
pub data Before (d : Operations) : ℕ → ℕ → Type 0 where
  step : {a b : ℕ} → DirectlyBefore d a b → Before d a b
  steps : {a b c : ℕ} → DirectlyBefore d a b → Before d b c → Before d a c

-- a circle: steps from a group back to itself
abbrev pub Circle : Operations → ℕ → ℕ → Type 0
Circle d a b = Before d a b × SameGroup d a b

-- a dirty page whose group has none directly before it
pub record Ready (d : Operations) (p : ℕ) : Type 0 where
  pub is_dirty : Dirty d p
  pub none_before : (q : ℕ) → DirectlyBefore d q p → ⊥

-- the dirty operations are among the first n, and they write pages that there are
pub record Finite (d : Operations) (n : ℕ) : Type 0 where
  pub few : (m : ℕ) → d.dirty m ≡ true → m < n
  pub on_pages : (m p : ℕ) → d.dirty m ≡ true → d.writes m p ≡ true → p < page_count

-- page q is the lowest of its group
pub record LowestOfGroup (d : Operations) (q : ℕ) : Type 0 where
  pub is_dirty : Dirty d q
  pub least : (x : ℕ) → SameGroup d x q → q ≤ x

-- the number of groups is k: each group has one lowest page, and so many pages are the lowest of their group
abbrev pub GroupCount : Operations → ℕ → Type 0
GroupCount d k = (f : ℕ → Bool) × ((q : ℕ) → Decides (f q) (LowestOfGroup d q)) × (k ≡ count f page_count)

-- every dirty operation of d is one of e, with the same number and the same pages
abbrev pub Among : Operations → Operations → Type 0
Among d e =
    (m : ℕ) → d.dirty m ≡ true
    → (k : ℕ) × (e.dirty k ≡ true) × (d.number m ≡ e.number k) × ((p : ℕ) → d.reads m p ≡ e.reads k p) × ((p : ℕ) → d.writes m p ≡ e.writes k p)
