-- Sets of pages by a test, and their numbers.
use Rattle.std.specs.Prelude.{ℕ, zero, suc, ◌+◌, ◌*◌, Bool, cond, ◌&&◌, ◌||◌, ◌==◌, nat_eq, nat_le, nat_lt}

-- the set of the pages below n at which the test f is true: page 0 is the lowest digit, the other pages follow it
unfoldable pub gather : (ℕ → Bool) → ℕ → ℕ
gather f zero = 0
gather f (suc n) = cond (f 0) 1 0 + 2 * gather (λ p. f (suc p)) n

-- the set of the 64 pages at which the test f is true
unfoldable pub set_of : (ℕ → Bool) → ℕ
set_of f = gather f 64

-- page p alone
abbrev pub only : ℕ → ℕ
only p = set_of (λ q. nat_eq q p)

-- pages a and b
abbrev pub both : ℕ → ℕ → ℕ
both a b = set_of (λ q. (q == a) || q == b)

-- the c pages from s on
abbrev pub run : ℕ → ℕ → ℕ
run s c = set_of (λ q. nat_le s q && nat_lt q (s + c))
