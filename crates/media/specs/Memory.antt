-- The memory medium: as many blocks of 256 bytes as fit into the host's bytes, and a fuse by which alone it dies.
use Rattle.std.specs.Prelude.{◌≡◌, ℕ, zero, suc, ◌*◌, ◌/◌, List, [], ◌∷◌, length, take, drop, codes}
use Rattle.media.specs.declared.memory.MemoryMedium.{MemoryMedium}
use Rattle.media.specs.declared.fate.Fate.{Fate}
use Rattle.media.specs.declared.fate.Fate.TheVariants.{Lives, DiesOld, DiesNew}
use Rattle.media.specs.declared.fuse.Left.{Left}
use Rattle.media.specs.declared.fuse.Left.TheVariants.{Old, New}
use Rattle.media.specs.declared.fuse.Fuse.{Fuse}
use Rattle.media.specs.declared.fuse.Fuse.TheVariants.{Absent, Armed, Blown}
use Rattle.media.specs.Media.{Device}

-- the first n blocks of a run of bytes
unfoldable pub chunks : ℕ → List ℕ → List (List ℕ)
chunks zero bs = []
chunks (suc n) bs = take 256 bs ∷ chunks n (drop 256 bs)

-- how many blocks fit
abbrev pub fitting : List ℕ → ℕ
fitting bs = length bs / 256

abbrev pub blocks_of : List ℕ → List (List ℕ)
blocks_of bs = chunks (fitting bs) bs

-- the bytes behind the last block
abbrev pub behind : List ℕ → List ℕ
behind bs = drop (256 * fitting bs) bs

-- what is left, as text
abbrev pub left_text : Left → List ℕ
left_text Old = codes "old"
left_text New = codes "new"

-- what a write leaves in the block at which the fuse blows
abbrev pub dying : Left → Fate
dying Old = DiesOld
dying New = DiesNew

-- the fate of the next write: it dies where no write is left on the fuse
abbrev pub fate_of : Fuse → Fate
fate_of Absent = Lives
fate_of (Armed zero left) = dying left
fate_of (Armed (suc n) left) = Lives
fate_of Blown = Lives

-- the fuse after a write that was carried out
abbrev pub burnt : Fuse → Fuse
burnt Absent = Absent
burnt (Armed zero left) = Blown
burnt (Armed (suc n) left) = Armed n left
burnt Blown = Blown

-- the fuse after power-on: one that has blown is removed
abbrev pub renewed : Fuse → Fuse
renewed Absent = Absent
renewed (Armed n left) = Armed n left
renewed Blown = Absent

-- what the medium is to its users
abbrev pub memory : MemoryMedium → Device
memory m = record { blocks = blocks_of m.bytes.now; live = m.live }

-- m' stands on the same bytes of the host as m, lent once, and those behind the last block are as they were
pub record KeepsHost (m m' : MemoryMedium) : Type 0 where
  pub rest : behind m'.bytes.now ≡ behind m.bytes.now
  pub lent : m'.bytes.ghost_name ≡ m.bytes.ghost_name
