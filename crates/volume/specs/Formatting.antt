-- Format: a new volume.
use Rattle.std.specs.Prelude.{◌≡◌, ℕ, ◌-◌, ◌^◌, Bool, true, not, ◌||◌, List, map, replicate, Some, None, Option, MatchOption, ◌==◌, nat_le}
use Rattle.sets.specs.Sets.{rising}
use Rattle.faults.specs.declared.fault.Fault.TheVariants.{BadHeader, TooShort}
use Rattle.faults.specs.Faults.{Report, report}
use Rattle.media.specs.Media.{Device, block_count, Wrote, check, powered}
use Rattle.media.specs.Plans.{Write, Ran}
use Rattle.stores.specs.Images.{blank}
use Rattle.stores.specs.Stores.{Store, Installed, is_short, powered as revived}
use Rattle.logblocks.specs.Blocks.{header_of}
use Rattle.volume.specs.Volumes.{Ends}

-- the log needs 129 blocks, and the store must not be short
abbrev pub too_short : Device → Store → Bool
too_short m s = not (nat_le 129 (block_count m)) || is_short s.state

abbrev pub format_check : ℕ → Ends → Option Report
format_check f e =
    check (f == 0) (report BadHeader)
    (check (too_short e.log e.store) (report TooShort)
    None)

-- the log's blocks 0 to 128, rising, all zeros
abbrev pub blanks : List Write
blanks = map (λ b. record { block = b; bytes = blank }) (rising (λ _. true) 129)

-- the set of all 64 pages, and their blank images
abbrev pub all_pages : ℕ
all_pages = 2 ^ 64 - 1

abbrev pub blank_images : List ℕ
blank_images = replicate 16384 0

-- Both ends are powered on. Then the log is blanked, 64 blank images are installed, and block 0 is written, up to the first write that
-- is refused: it is a write of the blanking, one of the install, or that of block 0.
pub data Begun (f : ℕ) : Ends → Option Report → Ends → Type 0 where
  blanking : {e : Ends} {m : Device} {r : Report}
      → Ran (powered e.log) blanks (Some r) m
      → Begun f e (Some r) (record { log = m; store = revived e.store; plan = e.plan })
  installing : {e : Ends} {m : Device} {s : Store} {plan : ℕ → List ℕ} {r : Report}
      → Ran (powered e.log) blanks None m
      → Installed (revived e.store) (e.plan all_pages) all_pages blank_images (Some r) s
      → Begun f e (Some r) (record { log = m; store = s; plan = plan })
  heading : {e : Ends} {m m' : Device} {s : Store} {plan : ℕ → List ℕ} {o : Option Report}
      → Ran (powered e.log) blanks None m
      → Installed (revived e.store) (e.plan all_pages) all_pages blank_images None s
      → Wrote m 0 (header_of f) o m'
      → Begun f e o (record { log = m'; store = s; plan = plan })

-- a format with first number f of a down volume e answers o and leaves e'
abbrev pub Formatted : ℕ → Ends → Option Report → Ends → Type 0
Formatted f e o e' = MatchOption (format_check f e) (Begun f e o e') (λ r. (o ≡ Some r) × (e' ≡ e))
