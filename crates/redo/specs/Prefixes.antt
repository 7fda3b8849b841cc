-- Installed operations. I is the set of the numbers of those that are installed; n is the next number.
use Rattle.std.specs.Prelude.{◌≡◌, ℕ, ◌<◌, Bool, true, false, not, ◌&&◌, ◌⊎◌, List, nat_le, nat_lt}
use Rattle.redo.specs.Histories.{Page, History, reads, writes, touches, contents_of, image}

-- an operation from the first on and below n that is not in I
abbrev pub uninstalled : History → (ℕ → Bool) → ℕ → ℕ → Bool
uninstalled h I n m = nat_le h.first m && (nat_lt m n && not (I m))

-- an installation-graph prefix: each P in it brings every earlier O that reads or writes a page that P writes
abbrev pub Prefix : History → (ℕ → Bool) → ℕ → Type 0
Prefix h I n = (O P x : ℕ) → O < P → P < n → I P ≡ true → writes h P x ≡ true → touches h O x ≡ true → I O ≡ true

-- no operation outside I below m touches page p
abbrev pub Untouched : History → (ℕ → Bool) → ℕ → ℕ → Type 0
Untouched h I m p = (k : ℕ) → k < m → I k ≡ false → touches h k p ≡ false

-- the first operation outside I that touches page p reads it
pub record FirstReads (h : History) (I : ℕ → Bool) (n p : ℕ) : Type 0 where
  pub op : ℕ
  pub below : op < n
  pub outside : I op ≡ false
  pub reads_it : reads h op p ≡ true
  pub none_earlier : Untouched h I op p

-- a page is exposed by I when no operation outside I touches it, or the first outside that touches it reads it
abbrev pub Exposed : History → (ℕ → Bool) → ℕ → ℕ → Type 0
Exposed h I n p = Untouched h I n p ⊎ FirstReads h I n p

-- I explains contents s: each exposed page has the contents that the last operation of I to write it wrote, its start contents if none
abbrev pub Explains : History → (ℕ → Bool) → ℕ → (ℕ → List ℕ) → Type 0
Explains h I n s = (p : ℕ) → Exposed h I n p → s p ≡ (image h I n p).contents

-- each stored page bears the number of the last operation of I that writes it
abbrev pub Numbered : History → (ℕ → Bool) → ℕ → (ℕ → Page) → Type 0
Numbered h I n w = (p : ℕ) → (w p).number ≡ (image h I n p).number

-- stored pages from which redo can recover: a prefix explains them, and they bear its numbers
pub record Recoverable (h : History) (I : ℕ → Bool) (n : ℕ) (w : ℕ → Page) : Type 0 where
  pub is_prefix : Prefix h I n
  pub explains : Explains h I n (contents_of w)
  pub numbered : Numbered h I n w

-- what the engine keeps: only operations that were run are installed, they are a prefix, and every stored page, exposed or not, is
-- exactly as the last installed operation to write it left it
pub record Installed (h : History) (I : ℕ → Bool) (n : ℕ) (w : ℕ → Page) : Type 0 where
  pub were_run : (m : ℕ) → I m ≡ true → m < n
  pub is_prefix : Prefix h I n
  pub images : (p : ℕ) → w p ≡ image h I n p
