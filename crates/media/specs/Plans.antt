-- Runs of many block writes: one after another, up to the first that is refused.
use Rattle.std.specs.Prelude.{◌≡◌, ℕ, ◌<◌, List, [], ◌∷◌, length, Some, None, Option, slice_set}
use Rattle.media.specs.declared.fate.Fate.{Fate}
use Rattle.faults.specs.Faults.{Report}
use Rattle.media.specs.Media.{Device, WroteBy}

-- new bytes for a block
pub record Write : Type 0 where
  pub block : ℕ
  pub bytes : List ℕ

-- A run of the writes ws on m answers o and leaves m'. Each write has a fate of its own.
pub data Ran : Device → List Write → Option Report → Device → Type 0 where
  done : {m : Device} → Ran m [] None m
  stops : {m m' : Device} {w : Write} {ws : List Write} {r : Report} (f : Fate) → WroteBy f m w.block w.bytes (Some r) m' → Ran m (w ∷ ws) (Some r) m'
  goes : {m m₁ m' : Device} {w : Write} {ws : List Write} {o : Option Report} (f : Fate) → WroteBy f m w.block w.bytes None m₁ → Ran m₁ ws o m' → Ran m (w ∷ ws) o m'

-- the blocks after one write, and after all
abbrev pub put : List (List ℕ) → Write → List (List ℕ)
put bs w = slice_set bs w.block w.bytes

unfoldable pub puts : List (List ℕ) → List Write → List (List ℕ)
puts bs [] = bs
puts bs (w ∷ ws) = puts (put bs w) ws

-- each write is of 256 bytes to one of n blocks
unfoldable pub Fitting : ℕ → List Write → Type 0
Fitting n [] = Unit {0}
Fitting n (w ∷ ws) = ((w.block < n) × (length w.bytes ≡ 256)) × Fitting n ws

-- P holds of the blocks at every point of the run: before it, after it and between any two writes
unfoldable pub Throughout : (List (List ℕ) → Type 0) → List (List ℕ) → List Write → Type 0
Throughout P bs [] = P bs
Throughout P bs (w ∷ ws) = P bs × Throughout P (put bs w) ws
