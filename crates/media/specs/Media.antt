-- A medium: blocks of 256 bytes, live or dead, and what reading, writing and power-on do to it.
use Rattle.std.specs.Prelude.{◌≡◌, ℕ, ◌<◌, Bool, true, false, cond, not, ◌&&◌, List, [], length, Some, None, Option, ◌==◌, nat_le, nat_lt, slice_index_or, slice_set}
use Rattle.media.specs.declared.fate.Fate.{Fate}
use Rattle.media.specs.declared.fate.Fate.TheVariants.{Lives, DiesOld, DiesNew}
use Rattle.faults.specs.declared.fault.Fault.TheVariants.{NoSuchBlock, WrongLength, PowerLost}
use Rattle.faults.specs.Faults.{Report, report}

-- the blocks from 0 on, and whether the medium is live
pub record Device : Type 0 where
  pub blocks : List (List ℕ)
  pub live : Bool

abbrev pub block_count : Device → ℕ
block_count m = length m.blocks

abbrev pub block_at : Device → ℕ → List ℕ
block_at m b = slice_index_or m.blocks b []

-- each block has 256 bytes
abbrev pub Whole : Device → Type 0
Whole m = (b : ℕ) → b < block_count m → length (block_at m b) ≡ 256

-- a check of a call: where it fails, its report comes ahead of the checks behind it
abbrev pub check : Bool → Report → Option Report → Option Report
check bad r rest = cond bad (Some r) rest

-- ---- reading: live or dead, and nothing changes

abbrev pub read_fault : Device → ℕ → List ℕ → Option Report
read_fault m b buffer =
    check (nat_le (block_count m) b) (report (NoSuchBlock b))
    (check (not (length buffer == 256)) (report (WrongLength (length buffer)))
    None)

-- what the buffer holds after: the block, or what it held where the call is refused
abbrev pub read_into : Device → ℕ → List ℕ → List ℕ
read_into m b buffer = cond (nat_lt b (block_count m) && length buffer == 256) (block_at m b) buffer

-- ---- writing: the fate of a write is left free, and all else follows from it

-- the write dies
abbrev pub dies : Fate → Bool
dies Lives = false
dies DiesOld = true
dies DiesNew = true

-- the block becomes new
abbrev pub lands : Fate → Bool
lands Lives = true
lands DiesOld = false
lands DiesNew = true

abbrev pub write_fault : Fate → Device → ℕ → List ℕ → Option Report
write_fault f m b d =
    check (nat_le (block_count m) b) (report (NoSuchBlock b))
    (check (not (length d == 256)) (report (WrongLength (length d)))
    (check (not m.live) (report (PowerLost b))
    (check (dies f) (report (PowerLost b))
    None)))

-- the write is carried out, whatever its fate: the block is there, its length is right and the medium is live
abbrev pub begins : Device → ℕ → List ℕ → Bool
begins m b d = (nat_lt b (block_count m) && length d == 256) && m.live

-- block b takes d or stays, and the medium dies or lives on
abbrev pub fated : Fate → Device → ℕ → List ℕ → Device
fated f m b d = record { blocks = cond (lands f) (slice_set m.blocks b d) m.blocks; live = not (dies f) }

abbrev pub after_write : Fate → Device → ℕ → List ℕ → Device
after_write f m b d = cond (begins m b d) (fated f m b d) m

-- a write of d to block b of m, with the fate f, answers o and leaves m'
pub record WroteBy (f : Fate) (m : Device) (b : ℕ) (d : List ℕ) (o : Option Report) (m' : Device) : Type 0 where
  pub answer : o ≡ write_fault f m b d
  pub after : m' ≡ after_write f m b d

-- the same with some fate: the one thing that a write leaves free
abbrev pub Wrote : Device → ℕ → List ℕ → Option Report → Device → Type 0
Wrote m b d o m' = (f : Fate) × WroteBy f m b d o m'

-- ---- power-on: live, and no block changes

abbrev pub powered : Device → Device
powered m = record { blocks = m.blocks; live = true }
