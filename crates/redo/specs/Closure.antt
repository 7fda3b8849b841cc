-- Warshall's closure, by which reach is computed: pages are let in between one after the other.
use Rattle.std.specs.Prelude.{ℕ, zero, suc, Bool, ◌&&◌, ◌||◌, List, [], ◌∷◌}

-- the pages below n
unfoldable pub pages_below : ℕ → List ℕ
pages_below zero = []
pages_below (suc n) = n ∷ pages_below n

-- from a to b by steps of r, with only pages of the list between
unfoldable pub via : (ℕ → ℕ → Bool) → List ℕ → ℕ → ℕ → Bool
via r [] a b = r a b
via r (k ∷ ks) a b = via r ks a b || (via r ks a k && via r ks k b)
