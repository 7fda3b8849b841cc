-- What a log reads as: its records from the first number on.
use Rattle.std.specs.Prelude.{ℕ, zero, suc, ◌+◌, ◌%◌, Bool, cond, not, ◌&&◌, List, Some, None, Ok, Err, Option, Result, ◌==◌}
use Rattle.sets.specs.Words.{number, part}
use Rattle.faults.specs.declared.fault.Fault.TheVariants.{BadRecord, SetsDiffer}
use Rattle.faults.specs.Faults.{Report, report}
use Rattle.media.specs.Media.{Device, block_at}
use Rattle.kinds.specs.Kinds.{Meaning}
use Rattle.logblocks.specs.Blocks.{Entry, record_in}

-- record n lies in block 1 + (n mod 128)
abbrev pub place_of : ℕ → ℕ
place_of n = 1 + n % 128

abbrev pub record_block : Device → ℕ → List ℕ
record_block m n = block_at m (place_of n)

-- the block bears the number of record n
abbrev pub bears : Device → ℕ → Bool
bears m n = number (part 0 4 (record_block m n)) == n

-- no record bears the last number
abbrev pub last_number : ℕ
last_number = 4294967295

-- where reading ends that starts at n: at a block that does not bear the expected number, after k records, or at the last number
unfoldable pub end_of : Device → ℕ → ℕ → ℕ
end_of m n zero = n
end_of m n (suc k) = cond (not (n == last_number) && bears m n) (end_of m (n + 1) k) n

-- what is wrong with a block that should hold record n: it is no record, the kind refuses its body, or its sets are not the kind's
abbrev pub sets_fault : ℕ → Entry → Result (ℕ × ℕ) ℕ → Option Report
sets_fault n e (Ok (r, w)) = cond (e.reads == r && e.writes == w) None (Some (report (SetsDiffer n)))
sets_fault n e (Err c) = Some (report (BadRecord n c))

abbrev pub entry_fault : Meaning → ℕ → Option Entry → Option Report
entry_fault k n (Some e) = sets_fault n e (k.scope e.body)
entry_fault k n None = Some (report (BadRecord n 0))

abbrev pub record_fault : Meaning → ℕ → List ℕ → Option Report
record_fault k n block = entry_fault k n (record_in block)
