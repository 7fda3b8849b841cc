-- Orders on keys.
use Rattle.std.specs.Prelude.{◌≡◌, ℕ, Bool, true, false}

-- an order on keys, as a test, and the key below all others
pub record KeyOrdering : Type 0 where
  pub less : ℕ → ℕ → Bool
  pub least : ℕ

-- what an order owes: no key is below itself, the order goes on, of two keys that differ one is below the other, and no key is
-- below the least
pub record TotalOrder (o : KeyOrdering) : Type 0 where
  pub apart : (a : ℕ) → o.less a a ≡ false
  pub onward : (a b c : ℕ) → o.less a b ≡ true → o.less b c ≡ true → o.less a c ≡ true
  pub total : (a b : ℕ) → o.less a b ≡ false → o.less b a ≡ false → a ≡ b
  pub from_least : (a : ℕ) → o.less a o.least ≡ false
