-- The law: what holds at every point of every life of a volume.
use Rattle.std.specs.Prelude.{◌≡◌, ℕ, ◌<◌, ◌≤◌, Bool, true, List, length, Some, None, Option, Ok}
use Rattle.std.specs.List.{AllByRecursion}
use Rattle.faults.specs.Faults.{Report}
use Rattle.kinds.specs.Kinds.{Meaning, Lawful}
use Rattle.redo.specs.Histories.{History, after}
use Rattle.redo.specs.Prefixes.{Recoverable}
use Rattle.redo.specs.WriteGraph.{Operations, Dirty, Circle, Ready, GroupCount}
use Rattle.redo.specs.Theorems.{Partition}
use Rattle.graph.specs.Ops.{dirty_ops}
use Rattle.graph.specs.Listing.{Lists}
use Rattle.volume.specs.Volumes.{Volume}
use Rattle.volume.specs.Flushing.{Flushed}
use Rattle.volume.specs.Mounting.{mounted}
use Rattle.volume.specs.Surviving.{stored_pages, working_pages}
use Rattle.lives.specs.Books.{Event, Book, next_of, next_logged, book_of, history_of, quiet, neither_run_nor_mount, flushes}
use Rattle.lives.specs.Lives.{State, ends, Life, GoesOn}
use Rattle.lives.specs.Lives.State.{down, up}

-- the dirty operations of an up volume
abbrev pub dirty_in : Volume → Operations
dirty_in v = dirty_ops v.dirty

-- a. In a well volume exactly the operations that are not installed are dirty. Each dirty page is in exactly one group, and the order
-- among groups has no circle. The working pages are what all surviving operations give, and a clean page is stored as it is.
pub record Working (h : History) (I : ℕ → Bool) (n : ℕ) (v : Volume) : Type 0 where
  pub next : v.next ≡ n
  pub dirty : Lists v.dirty h I n
  pub groups : Partition (dirty_in v)
  pub no_circle : (a b : ℕ) → Circle (dirty_in v) a b → ⊥
  pub working : (p : ℕ) → working_pages v p ≡ after h n p
  pub clean : (p : ℕ) → (Dirty (dirty_in v) p → ⊥) → stored_pages v.store p ≡ working_pages v p

-- b. The up volume v that the next mount gives: it is well and shows exactly the pages, contents and numbers, of the operations below n,
-- which are the logged ones; those that are not installed, and no others, were redone.
pub record Recovered (h : History) (I : ℕ → Bool) (n : ℕ) (v : Volume) : Type 0 where
  pub passes : v.status ≡ Ok tt
  pub next : v.next ≡ n
  pub shows : (p : ℕ) → working_pages v p ≡ after h n p
  pub redone : Lists v.dirty h I n

-- c. no page is dirty
abbrev pub NoneDirty : State → Type 0
NoneDirty (up v) = (p : ℕ) → Dirty (dirty_in v) p → ⊥
NoneDirty (down e) = Unit {0}

-- nor is there anything left to store: every stored page is what all operations below n give
pub record Clean (h : History) (n : ℕ) (s : State) : Type 0 where
  pub none_dirty : NoneDirty s
  pub all_stored : (p : ℕ) → stored_pages (ends s).store p ≡ after h n p

-- it passed, or the power failed in it
abbrev pub PassedOrLost : Option Report → Type 0
PassedOrLost None = Unit {0}
PassedOrLost (Some r) = r.number ≡ 4

-- a well volume that is quiet can be made clean
pub record Flushable (k : Meaning) (h : History) (n : ℕ) (v : Volume) : Type 0 where
  -- any dirty page means that some group has none directly before it
  pub some_ready : (p : ℕ) → Dirty (dirty_in v) p → (q : ℕ) × Ready (dirty_in v) q
  -- flush passes for each page of such a group unless the power fails
  pub flush_passes : (p group : ℕ) (o : Option Report) (v' : Volume) → Ready (dirty_in v) p → Flushed v p group o v' → PassedOrLost o
  -- there are so many groups
  pub groups : ℕ
  pub counted : GroupCount (dirty_in v) groups
  -- and however the life goes on without a run or a mount, as many accepted flushes leave all pages clean
  pub all_flushed : (es : List Event) (s : State) → GoesOn k (up v) es s → AllByRecursion (λ e. neither_run_nor_mount e ≡ true) es → flushes es ≡ groups → Clean h n s

-- what is asked of a state that is up and well
abbrev pub IfWell : (Volume → Type 0) → State → Type 0
IfWell P (up v) = v.status ≡ Ok tt → P v
IfWell P (down e) = Unit {0}

-- The law at a point of a life, for its book, in its state.
pub record LawOf (k : Meaning) (b : Book) (is_quiet : Bool) (s : State) : Type 0 where
  -- the installed operations: a prefix that explains the stored pages, and whose numbers these bear; only logged ones are installed
  pub I : ℕ → Bool
  pub explained : Recoverable (history_of k b) I (next_of b) (stored_pages (ends s).store)
  pub installed_logged : (m : ℕ) → I m ≡ true → m < next_logged b
  pub working : IfWell (Working (history_of k b) I (next_of b)) s
  -- what a mount would give now, whichever write the power failed at, or none
  pub recovered : Recovered (history_of k b) I (next_logged b) (mounted k (ends s))
  -- what was acknowledged is logged, and what is logged survives
  pub acknowledged : b.acknowledged ≤ b.logged
  pub logged : b.logged ≤ length b.bodies
  pub flushable : is_quiet ≡ true → IfWell (Flushable k (history_of k b) (next_of b)) s

abbrev pub Law : Meaning → ℕ → List Event → State → Type 0
Law k f es s = LawOf k (book_of f es) (quiet es) s

-- for every kind of operation
abbrev pub LawHolds : Type 0
LawHolds = (k : Meaning) → Lawful k → (f : ℕ) (es : List Event) (s : State) → Life k f es s → Law k f es s
