-- Redo: the operations in order, each run again exactly if all pages it writes bear lower numbers.
use Rattle.std.specs.Prelude.{◌≡◌, ℕ, zero, suc, ◌<◌, ◌≤◌, Bool, true, false, cond, not, ◌&&◌, ◌||◌, List, nat_le, nat_lt}
use Rattle.sets.specs.Sets.{rising}
use Rattle.redo.specs.Histories.{page_count, Page, History, writes, run}

-- whether a test holds of every number below n, and of some
unfoldable pub every : ℕ → (ℕ → Bool) → Bool
every zero f = true
every (suc n) f = f n && every n f

unfoldable pub some : ℕ → (ℕ → Bool) → Bool
some zero f = false
some (suc n) f = f n || some n f

-- the pages that operation m writes bear numbers at or above its own; all of them bear numbers below it
abbrev pub AtOrAbove : History → ℕ → (ℕ → Page) → Type 0
AtOrAbove h m w = (p : ℕ) → writes h m p ≡ true → m ≤ (w p).number

abbrev pub Below : History → ℕ → (ℕ → Page) → Type 0
Below h m w = (p : ℕ) → writes h m p ≡ true → (w p).number < m

-- the tests for the two
abbrev pub present : History → ℕ → (ℕ → Page) → Bool
present h m w = every page_count (λ p. not (writes h m p) || nat_le m (w p).number)

abbrev pub missing : History → ℕ → (ℕ → Page) → Bool
missing h m w = every page_count (λ p. not (writes h m p) || nat_lt (w p).number m)

-- the pages that redo of the operations below n makes of stored pages w
unfoldable pub redo : History → ℕ → (ℕ → Page) → ℕ → Page
redo h zero w = w
redo h (suc m) w = let v = redo h m w in cond (missing h m v) (run h m v) v

-- the numbers of the operations below n that redo runs again, rising
abbrev pub redone : History → ℕ → (ℕ → Page) → List ℕ
redone h n w = rising (λ m. nat_le h.first m && missing h m (redo h m w)) n
