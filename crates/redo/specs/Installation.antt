-- What the engine does to installed operations and stored pages: it installs a group, runs an operation, loses operations at the end, and
-- drops installed ones from the log.
use Rattle.std.specs.Prelude.{ℕ, Bool, cond, ◌&&◌, ◌||◌, Decides, ◌==◌}
use Rattle.redo.specs.Histories.{page_count, Page, Operation, History, writes, after}
use Rattle.redo.specs.Prefixes.{uninstalled}
use Rattle.redo.specs.Recovery.{some}
use Rattle.redo.specs.WriteGraph.{Operations, SameGroup}

-- G is the set of the pages of p's group
abbrev pub IsGroup : Operations → ℕ → (ℕ → Bool) → Type 0
IsGroup d p G = (q : ℕ) → Decides (G q) (SameGroup d q p)

-- the operations that are installed once the pages of G are: the dirty ones that write one of them join
abbrev pub joined : History → (ℕ → Bool) → ℕ → (ℕ → Bool) → ℕ → Bool
joined h I n G m = I m || (uninstalled h I n m && some page_count (λ q. writes h m q && G q))

-- stored pages w once the pages of G are installed: these become as all operations below n left them
abbrev pub stored_with : History → ℕ → (ℕ → Bool) → (ℕ → Page) → ℕ → Page
stored_with h n G w p = cond (G p) (after h n p) (w p)

-- the history in which operation o bears the number n
abbrev pub extended : History → ℕ → Operation → History
extended h n o = record { start = h.start; first = h.first; operation = λ m. cond (m == n) o (h.operation m) }

-- the history from number k on: its start pages are what the operations below k gave
abbrev pub trimmed : History → ℕ → History
trimmed h k = record { start = after h k; first = k; operation = h.operation }
