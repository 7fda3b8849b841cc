-- What reading and writing a medium come to, check by check.
use Rattle.std.proofs.Common.{◌≡◌, ℕ, ◌<◌, true, List, length, None, arith}
use Rattle.std.proofs.lemmas.Bool.Decides.{nat_tests}
use Rattle.media.specs.Media.{Device, block_count, block_at, read_fault, read_into, begins}

module _ (m : Device) (b : ℕ) (buffer : List ℕ) where
  -- the checks passed
  pub read_checked : None ≡ read_fault m b buffer → (b < block_count m) × (length buffer ≡ 256)
  read_checked e = (grind (arith, nat_tests), grind (arith, nat_tests))

  pub read_passes : b < block_count m → length buffer ≡ 256 → (None ≡ read_fault m b buffer) × (block_at m b ≡ read_into m b buffer)
  read_passes h e = (grind (arith, nat_tests), grind (arith, nat_tests))

-- what `begins` says
pub begins-parts : (m : Device) (b : ℕ) (d : List ℕ) → begins m b d ≡ true → (b < block_count m) × (length d ≡ 256) × (m.live ≡ true)
begins-parts m b d h = (grind (arith, nat_tests), grind (arith, nat_tests), grind (arith, nat_tests))
