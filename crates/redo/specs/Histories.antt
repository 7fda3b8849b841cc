-- Operations on pages, ordered by number, and what they give from start pages. Sets are tests: page p is in s when s p is true.
use Rattle.std.specs.Prelude.{◌≡◌, ℕ, zero, suc, ◌<◌, ◌≤◌, Bool, true, cond, ◌&&◌, ◌||◌, List, Some, None, Option, nat_le}

-- how many pages there are
abbrev pub page_count : ℕ
page_count = 64

-- a page: what it holds, and the number of the last operation that wrote it
pub record Page : Type 0 where
  pub contents : List ℕ
  pub number : ℕ

-- an operation: the pages it reads, the pages it writes, and its effect: from the contents of all pages the contents that it
-- gives to those it writes, or none where it refuses
pub record Operation : Type 0 where
  pub reads : ℕ → Bool
  pub writes : ℕ → Bool
  pub effect : (ℕ → List ℕ) → Option (ℕ → List ℕ)

-- a history: the start pages, the first number, and the operation that bears each number from the first on
pub record History : Type 0 where
  pub start : ℕ → Page
  pub first : ℕ
  pub operation : ℕ → Operation

-- whether operation m reads page p, and whether it writes it; numbers below the first do neither
abbrev pub reads : History → ℕ → ℕ → Bool
reads h m p = nat_le h.first m && (h.operation m).reads p

abbrev pub writes : History → ℕ → ℕ → Bool
writes h m p = nat_le h.first m && (h.operation m).writes p

-- it touches the pages that it reads or writes
abbrev pub touches : History → ℕ → ℕ → Bool
touches h m p = reads h m p || writes h m p

-- the contents of pages
abbrev pub contents_of : (ℕ → Page) → ℕ → List ℕ
contents_of w p = (w p).contents

-- the effect of operation m on pages w
abbrev pub effect_on : History → ℕ → (ℕ → Page) → Option (ℕ → List ℕ)
effect_on h m w = (h.operation m).effect (contents_of w)

-- a written page: it takes the contents that the effect gives it, and the operation's number
abbrev pub renewed : Option (ℕ → List ℕ) → ℕ → ℕ → Page → Page
renewed (Some new) m p old = record { contents = new p; number = m }
renewed None m p old = old

-- the pages that operation m makes of pages w
abbrev pub run : History → ℕ → (ℕ → Page) → ℕ → Page
run h m w p = cond (writes h m p) (renewed (effect_on h m w) m p (w p)) (w p)

-- the pages that all operations below n give, in order
unfoldable pub after : History → ℕ → ℕ → Page
after h zero = h.start
after h (suc m) = run h m (after h m)

-- page p as the last operation of I below n to write it left it when all ran in order; its start page if there is none
unfoldable pub image : History → (ℕ → Bool) → ℕ → ℕ → Page
image h I zero p = h.start p
image h I (suc m) p = cond (I m && writes h m p) (after h (suc m) p) (image h I m p)

-- an effect goes by the pages read: it is the same wherever these have the same contents
abbrev pub GoesByReads : Operation → Type 0
GoesByReads o = (s t : ℕ → List ℕ) → ((p : ℕ) → o.reads p ≡ true → s p ≡ t p) → o.effect s ≡ o.effect t

-- what every operation of a kind is owed: its effect goes by the pages read, and it writes some of the pages there are
pub record WellFormed (o : Operation) : Type 0 where
  pub goes_by_reads : GoesByReads o
  pub writes_some : (p : ℕ) × (o.writes p ≡ true)
  pub on_pages : (p : ℕ) → o.writes p ≡ true → p < page_count

-- a history that was run up to n: the start pages bear lower numbers, and no operation refused
pub record Ran (h : History) (n : ℕ) : Type 0 where
  pub starts_below : (p : ℕ) → (h.start p).number < h.first
  pub well_formed : (m : ℕ) → h.first ≤ m → m < n → WellFormed (h.operation m)
  pub accepted : (m : ℕ) → h.first ≤ m → m < n → (new : ℕ → List ℕ) × (effect_on h m (after h m) ≡ Some new)
