-- Sets of pages. A set is a number: page p is in it when bit p of the number is 1.
use Rattle.std.specs.Prelude.{◌≡◌, ℕ, zero, suc, ◌+◌, ◌/◌, ◌%◌, ◌^◌, ◌<◌, ◌≤◌, Bool, true, false, cond, not, List, [], ◌∷◌, ◌++◌, ◌==◌, Option, Some, None}

-- whether page p is in the set s
unfoldable pub has : ℕ → ℕ → Bool
has s p = (s / 2 ^ p) % 2 == 1

-- s is the set of exactly the pages at which the test f is true
abbrev pub SetOf : ℕ → (ℕ → Bool) → Type 0
SetOf s f = (p : ℕ) → has s p ≡ f p

-- one of the two, and not both
abbrev pub differs : Bool → Bool → Bool
differs true b = not b
differs false b = b

-- some page is in both sets
abbrev pub Meet : ℕ → ℕ → Type 0
Meet s t = (p : ℕ) × (has s p ≡ true) × (has t p ≡ true)

-- how many of the pages below n pass the test f
unfoldable pub count : (ℕ → Bool) → ℕ → ℕ
count f zero = 0
count f (suc n) = count f n + cond (f n) 1 0

-- the pages below n that pass the test f, rising
unfoldable pub rising : (ℕ → Bool) → ℕ → List ℕ
rising f zero = []
rising f (suc n) = rising f n ++ cond (f n) (n ∷ []) []

-- the first of the n pages from p on that passes the test f; p + n where none does
unfoldable pub first : (ℕ → Bool) → ℕ → ℕ → ℕ
first f p zero = p
first f p (suc n) = cond (f p) p (first f (suc p) n)

-- how many pages a set of the 64 pages holds
abbrev pub size : ℕ → ℕ
size s = count (has s) 64

-- the lowest page of a set of the 64 pages; 64 where it is empty
abbrev pub lowest : ℕ → ℕ
lowest s = first (has s) 0 64

-- the pages of a set of the 64 pages, rising
abbrev pub pages : ℕ → List ℕ
pages s = rising (has s) 64

-- r is the lowest page of s from page p on
pub record LowestFrom (s p r : ℕ) : Type 0 where
  pub from : p ≤ r
  pub found : has s r ≡ true
  pub none_between : (q : ℕ) → p ≤ q → q < r → has s q ≡ false

-- the lowest page of s from page p on, or that there is none
abbrev pub NextPage : ℕ → ℕ → Option ℕ → Type 0
NextPage s p (Some r) = LowestFrom s p r
NextPage s p None = (q : ℕ) → p ≤ q → q < 64 → has s q ≡ false
