-- Force and trim: what they write to the log.
use Rattle.std.specs.Prelude.{◌≡◌, ℕ, cond, List, [], ◌∷◌, Some, None, Option, MatchOption, ◌==◌}
use Rattle.faults.specs.Faults.{Report}
use Rattle.media.specs.declared.fate.Fate.{Fate}
use Rattle.media.specs.Media.{Device, WroteBy, Wrote}
use Rattle.logblocks.specs.Blocks.{header_of}
use Rattle.tables.specs.DirtyOps.{first_number}
use Rattle.volume.specs.Working.{number_of}
use Rattle.volume.specs.LogReading.{place_of}
use Rattle.volume.specs.Statuses.{halted_by, halting}
use Rattle.volume.specs.Volumes.{Volume}

-- Records are written in order, each into the block of its number. The first whose write is refused still waits, and so do those behind it.
-- Each write has a fate of its own.
pub data Logged : Device → List (List ℕ) → Option Report → Device → List (List ℕ) → Type 0 where
  all : {m : Device} → Logged m [] None m []
  dies : {m m' : Device} {b : List ℕ} {bs : List (List ℕ)} {r : Report} (f : Fate)
      → WroteBy f m (place_of (number_of b)) b (Some r) m' → Logged m (b ∷ bs) (Some r) m' (b ∷ bs)
  goes : {m m₁ m' : Device} {b : List ℕ} {bs left : List (List ℕ)} {o : Option Report} (f : Fate)
      → WroteBy f m (place_of (number_of b)) b None m₁ → Logged m₁ bs o m' left → Logged m (b ∷ bs) o m' left

-- the volume with what a force left in the log and waiting
abbrev pub with_log : Device → List (List ℕ) → Option Report → Volume → Volume
with_log m left o v = record {
  log = m;
  store = v.store;
  plan = v.plan;
  images = v.images;
  waiting = left;
  dirty = v.dirty;
  first = v.first;
  next = v.next;
  status = halting v.status o;
}

-- a force of a well volume
pub record ForcedWell (v : Volume) (o : Option Report) (v' : Volume) : Type 0 where
  pub log : Device
  pub left : List (List ℕ)
  pub logged : Logged v.log v.waiting o log left
  pub after : v' ≡ with_log log left o v

-- a call on a halted volume answers its fault and changes nothing
abbrev pub ByStatus : Volume → Option Report → Volume → Type 0 → Type 0
ByStatus v o v' well = MatchOption (halted_by v.status) well (λ r. (o ≡ Some r) × (v' ≡ v))

-- a force of v answers o and leaves v'; accepted it answers the next number less 1
abbrev pub Forced : Volume → Option Report → Volume → Type 0
Forced v o v' = ByStatus v o v' (ForcedWell v o v')

-- ---- trim

-- the lowest number of a dirty operation, or the next number if there is none
abbrev pub trimmed_to : Volume → ℕ
trimmed_to v = first_number v.dirty v.next

-- the volume with what a trim left of block 0; the first number moves only where the write passes
abbrev pub moved : Option Report → ℕ → ℕ → ℕ
moved None new old = new
moved (Some r) new old = old

abbrev pub with_header : Device → Option Report → Volume → Volume
with_header m o v = record {
  log = m;
  store = v.store;
  plan = v.plan;
  images = v.images;
  waiting = v.waiting;
  dirty = v.dirty;
  first = moved o (trimmed_to v) v.first;
  next = v.next;
  status = halting v.status o;
}

pub record TrimmedWell (v : Volume) (o : Option Report) (v' : Volume) : Type 0 where
  pub log : Device
  pub wrote : Wrote v.log 0 (header_of (trimmed_to v)) o log
  pub after : v' ≡ with_header log o v

-- block 0 is written if the first number changes; accepted it answers the first number after
abbrev pub Trimmed : Volume → Option Report → Volume → Type 0
Trimmed v o v' = ByStatus v o v' (cond (trimmed_to v == v.first) ((o ≡ None) × (v' ≡ v)) (TrimmedWell v o v'))
