-- Laws of pages and of putting keys in, in the words of maps.
use Rattle.std.specs.Prelude.{◌≡◌, ℕ, ◌^◌, ◌<◌, true, List, length, Some, ◌≢◌}
use Rattle.std.specs.List.{AllByRecursion}
use Rattle.tree.specs.Orders.{KeyOrdering}
use Rattle.tree.specs.Nodes.{Entry, find, put, rising, mark, count, entries, renew}

-- keys and values of four bytes
abbrev pub Words : List Entry → Type 0
Words es = AllByRecursion (λ e. (e.0 < 2 ^ 32) × (e.1 < 2 ^ 32)) es

-- a renewed page has the new mark and exactly the new entries
abbrev pub Codec : Type 0
Codec = (m : ℕ) (es : List Entry) (c : List ℕ) → Words es → (mark (renew m es c) ≡ m) × (count (renew m es c) ≡ length es) × (entries (renew m es c) ≡ es)

-- a key that was put in has its value, every other key has the value that it had, and keys rise as before
pub record Puts (o : KeyOrdering) : Type 0 where
  pub itself : (k v : ℕ) (es : List Entry) → find k (put o k v es) ≡ Some v
  pub others : (k v j : ℕ) (es : List Entry) → (j ≢ k) → find j (put o k v es) ≡ find j es
  pub rises : (k v : ℕ) (es : List Entry) → rising o es ≡ true → rising o (put o k v es) ≡ true
