-- A partition: blocks a to a + n - 1 of a medium, or no block where the medium is shorter.
use Rattle.std.specs.Prelude.{◌≡◌, ℕ, ◌+◌, cond, [], take, drop, ◌==◌, nat_le}
use Rattle.faults.specs.declared.fault.Fault.TheVariants.{PowerLost}
use Rattle.faults.specs.Faults.{Report, report}
use Rattle.media.specs.declared.partition.Partition.{Partition}
use Rattle.media.specs.Media.{Device, block_count}

-- the partition of n blocks from block a on
abbrev pub part_of : ℕ → ℕ → Device → Device
part_of a n m = record { blocks = cond (nat_le (a + n) (block_count m)) (take n (drop a m.blocks)) []; live = m.live }

-- a partition as its users see it, by the model of the medium below
abbrev pub part : {D : Type 0} → (D → Device) → Partition D → Device
part model p = part_of p.first p.blocks (model p.medium)

-- the blocks in front of the partition and those behind it are the same in both media
pub record SameOutside (a n : ℕ) (m m' : Device) : Type 0 where
  pub front : take a m'.blocks ≡ take a m.blocks
  pub rest : drop (a + n) m'.blocks ≡ drop (a + n) m.blocks

-- a report of the medium below as the partition tells it: a lost block by its own count
abbrev pub retell : ℕ → Report → Report
retell b r = cond (r.number == 4) (report (PowerLost b)) r
