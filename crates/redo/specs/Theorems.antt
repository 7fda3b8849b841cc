-- The theorems of redo recovery, each owed by a function of this crate.
use Rattle.std.specs.Prelude.{◌≡◌, ℕ, suc, ◌<◌, ◌≤◌, Bool, true, false, not, ◌&&◌, ◌||◌, ◌⊎◌, ◌↔◌, List, Some, ◌==◌, nat_lt}
use Rattle.sets.specs.Sets.{rising}
use Rattle.redo.specs.Histories.{page_count, Page, Operation, History, writes, effect_on, contents_of, after, WellFormed, Ran}
use Rattle.redo.specs.Prefixes.{uninstalled, Recoverable, Installed}
use Rattle.redo.specs.Recovery.{some, AtOrAbove, Below, present, missing, redo, redone}
use Rattle.redo.specs.WriteGraph.{Operations, operations, Arrow, Reaches, Dirty, SameGroup, DirectlyBefore, Circle, Ready, Finite, GroupCount, Among}
use Rattle.redo.specs.Installation.{IsGroup, joined, stored_with, extended, trimmed}

-- what redo from stored pages w comes to
pub record Recovers (h : History) (I : ℕ → Bool) (n : ℕ) (w : ℕ → Page) : Type 0 where
  -- the written pages of an operation are all at or above its number exactly if it is installed, and all below exactly if not
  pub installed_told : (m : ℕ) → h.first ≤ m → m < n → (I m ≡ true) ↔ AtOrAbove h m w
  pub missing_told : (m : ℕ) → h.first ≤ m → m < n → (I m ≡ false) ↔ Below h m w
  -- never mixed
  pub not_mixed : (m : ℕ) → h.first ≤ m → m < n → AtOrAbove h m w ⊎ Below h m w
  -- redo finds the same when it reaches the operation
  pub present_then : (m : ℕ) → h.first ≤ m → m < n → present h m (redo h m w) ≡ I m
  pub missing_then : (m : ℕ) → h.first ≤ m → m < n → missing h m (redo h m w) ≡ not (I m)
  pub runs_again : redone h n w ≡ rising (uninstalled h I n) n
  -- each operation that it runs again has its first effect
  pub first_effect : (m : ℕ) → h.first ≤ m → m < n → I m ≡ false → effect_on h m (redo h m w) ≡ effect_on h m (after h m)
  pub accepted : (m : ℕ) → h.first ≤ m → m < n → I m ≡ false → (new : ℕ → List ℕ) × (effect_on h m (redo h m w) ≡ Some new)
  -- and it ends with the pages, contents and numbers, that all operations give
  pub all_pages : (p : ℕ) → redo h n w p ≡ after h n p

-- 1. redo recovers
abbrev pub RedoRecovers : Type 0
RedoRecovers = (h : History) (I : ℕ → Bool) (n : ℕ) (w : ℕ → Page) → Ran h n → Recoverable h I n w → Recovers h I n w

-- what the engine keeps suffices for that
abbrev pub InstalledRecoverable : Type 0
InstalledRecoverable = (h : History) (I : ℕ → Bool) (n : ℕ) (w : ℕ → Page) → Installed h I n w → Recoverable h I n w

-- what the install of a group G leaves of the graph d: e, with the other groups and the order among them exactly as they were
pub record Rest (d e : Operations) (G : ℕ → Bool) : Type 0 where
  pub dirty : (q : ℕ) → Dirty e q ↔ (Dirty d q × (G q ≡ false))
  pub groups : (a b : ℕ) → SameGroup e a b ↔ (SameGroup d a b × (G a ≡ false))
  pub order : (a b : ℕ) → DirectlyBefore e a b ↔ (DirectlyBefore d a b × (G a ≡ false))

-- what the install of a group leaves: what the engine keeps, the rest of the graph, and dirty the operations that write outside the group
pub record AfterInstall (h : History) (I : ℕ → Bool) (n : ℕ) (w : ℕ → Page) (G : ℕ → Bool) : Type 0 where
  pub installed : Installed h (joined h I n G) n (stored_with h n G w)
  pub rest : Rest (operations h I n) (operations h (joined h I n G) n) G
  pub still_dirty : (m : ℕ) → uninstalled h (joined h I n G) n m ≡ (uninstalled h I n m && not (some page_count (λ q. writes h m q && G q)))

-- 2. a group that has none directly before it can be installed
abbrev pub GroupInstalls : Type 0
GroupInstalls =
    (h : History) (I : ℕ → Bool) (n : ℕ) (w : ℕ → Page) (p : ℕ) (G : ℕ → Bool) → Ran h n → Installed h I n w
    → Ready (operations h I n) p → IsGroup (operations h I n) p G → AfterInstall h I n w G

-- where the installed operations only explain the stored pages, they do so still
abbrev pub GroupExplains : Type 0
GroupExplains =
    (h : History) (I : ℕ → Bool) (n : ℕ) (w : ℕ → Page) (p : ℕ) (G : ℕ → Bool) → Ran h n → Recoverable h I n w
    → Ready (operations h I n) p → IsGroup (operations h I n) p G → Recoverable h (joined h I n G) n (stored_with h n G w)

-- the install leaves one group fewer
abbrev pub OneGroupFewer : Type 0
OneGroupFewer =
    (d e : Operations) (n p : ℕ) (G : ℕ → Bool) (k j : ℕ) → Finite d n → Dirty d p → IsGroup d p G → Rest d e G
    → GroupCount d k → GroupCount e j → k ≡ suc j

-- where there is no group, no page is dirty
abbrev pub NoGroupsClean : Type 0
NoGroupsClean = (d : Operations) (n : ℕ) → Finite d n → GroupCount d 0 → (p : ℕ) → Dirty d p → ⊥

-- 3. the groups part the dirty pages: each dirty page is in exactly one group, and no other page is in any
pub record Partition (d : Operations) : Type 0 where
  pub in_one : (p : ℕ) → Dirty d p → SameGroup d p p
  pub not_in_two : (p q r : ℕ) → SameGroup d p q → SameGroup d p r → SameGroup d q r
  pub dirty_only : (p q : ℕ) → SameGroup d p q → Dirty d p × Dirty d q

abbrev pub GroupsPart : Type 0
GroupsPart = (d : Operations) → Partition d

-- the order among groups has no circle
abbrev pub NoCircle : Type 0
NoCircle = (d : Operations) (a b : ℕ) → Circle d a b → ⊥

-- a dirty page means that some group has none directly before it
abbrev pub SomeReady : Type 0
SomeReady = (d : Operations) (n p : ℕ) → Finite d n → Dirty d p → (q : ℕ) × Ready d q

-- the dirty operations of a history that ran are such
abbrev pub HistoryFinite : Type 0
HistoryFinite = (h : History) (I : ℕ → Bool) (n : ℕ) → Ran h n → Finite (operations h I n) n

-- the graph goes by the operations alone: the same dirty operations at other places have the same groups and order
pub record SameGraph (d e : Operations) : Type 0 where
  pub dirty : (p : ℕ) → Dirty d p ↔ Dirty e p
  pub arrows : (a b : ℕ) → Arrow d a b ↔ Arrow e a b
  pub reach : (a b : ℕ) → Reaches d a b ↔ Reaches e a b
  pub groups : (a b : ℕ) → SameGroup d a b ↔ SameGroup e a b
  pub order : (a b : ℕ) → DirectlyBefore d a b ↔ DirectlyBefore e a b

abbrev pub GraphByOperations : Type 0
GraphByOperations = (d e : Operations) → Among d e → Among e d → SameGraph d e

-- 4. one more operation o runs, with the number n: what the engine keeps stays, and so do the earlier pages; o alone becomes dirty
pub record AfterRun (h : History) (I : ℕ → Bool) (n : ℕ) (w : ℕ → Page) (o : Operation) : Type 0 where
  pub ran : Ran (extended h n o) (suc n)
  pub installed : Installed (extended h n o) I (suc n) w
  pub same_pages : (m p : ℕ) → m ≤ n → after (extended h n o) m p ≡ after h m p
  pub newly_dirty : (m : ℕ) → uninstalled (extended h n o) I (suc n) m ≡ (uninstalled h I n m || m == n)

abbrev pub RunKeeps : Type 0
RunKeeps =
    (h : History) (I : ℕ → Bool) (n : ℕ) (w : ℕ → Page) (o : Operation) (new : ℕ → List ℕ) → Ran h n → Installed h I n w
    → h.first ≤ n → WellFormed o → o.effect (contents_of (after h n)) ≡ Some new → AfterRun h I n w o

-- operations from k on are lost, none of them installed: what the engine keeps stays
pub record AfterLoss (h : History) (I : ℕ → Bool) (n k : ℕ) (w : ℕ → Page) : Type 0 where
  pub ran : Ran h k
  pub installed : Installed h I k w
  pub still_dirty : (m : ℕ) → uninstalled h I k m ≡ (uninstalled h I n m && nat_lt m k)

abbrev pub LossKeeps : Type 0
LossKeeps =
    (h : History) (I : ℕ → Bool) (n k : ℕ) (w : ℕ → Page) → Ran h n → Installed h I n w
    → k ≤ n → ((m : ℕ) → I m ≡ true → m < k) → AfterLoss h I n k w

-- operations below k are dropped from the log, all of them installed: what the engine keeps stays, and so does what is dirty
pub record AfterTrim (h : History) (I : ℕ → Bool) (n k : ℕ) (w : ℕ → Page) : Type 0 where
  pub ran : Ran (trimmed h k) n
  pub installed : Installed (trimmed h k) I n w
  pub same_pages : (m p : ℕ) → k ≤ m → after (trimmed h k) m p ≡ after h m p
  pub still_dirty : (m : ℕ) → uninstalled (trimmed h k) I n m ≡ uninstalled h I n m

abbrev pub TrimKeeps : Type 0
TrimKeeps =
    (h : History) (I : ℕ → Bool) (n k : ℕ) (w : ℕ → Page) → Ran h n → Installed h I n w
    → h.first ≤ k → k ≤ n → ((m : ℕ) → h.first ≤ m → m < k → I m ≡ true) → AfterTrim h I n k w
