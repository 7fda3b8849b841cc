-- Operations of a kind, and the pages of a volume, as a history has them; what a mount owes of a history.
use Rattle.std.specs.Prelude.{◌≡◌, ℕ, ◌<◌, ◌≤◌, Bool, false, List, Some, None, Ok, Err, Option, Result}
use Rattle.std.specs.List.{flat_map}
use Rattle.sets.specs.Sets.{has, pages}
use Rattle.media.specs.Media.{Device, block_at}
use Rattle.stores.specs.Stores.{Store}
use Rattle.kinds.specs.Kinds.{Meaning}
use Rattle.logblocks.specs.Blocks.{entry_of, header_in}
use Rattle.redo.specs.Histories.{Page, Operation, History, after, Ran}
use Rattle.redo.specs.Prefixes.{Recoverable}
use Rattle.graph.specs.Listing.{Lists}
use Rattle.volume.specs.Working.{number_of, contents_in, share_of, taken}
use Rattle.volume.specs.LogReading.{last_number, record_block, end_of, record_fault}
use Rattle.volume.specs.Volumes.{Ends, Volume}
use Rattle.volume.specs.Formatting.{too_short}
use Rattle.volume.specs.Mounting.{mounted}

-- the page that an image holds
abbrev pub page_of : List ℕ → Page
page_of image = record { contents = contents_in image; number = number_of image }

-- the stored pages of a store, and the working pages of an up volume
abbrev pub stored_pages : Store → ℕ → Page
stored_pages s p = page_of (taken s.image p)

abbrev pub working_pages : Volume → ℕ → Page
working_pages v p = page_of (v.images p)

-- what a kind's outcome gives to each written page
abbrev pub shares : ℕ → Result (List ℕ) ℕ → Option (ℕ → List ℕ)
shares writes (Ok new) = Some (share_of writes new)
shares writes (Err c) = None

-- the operation that a body is: its kind says what it reads and writes, and what it makes of the read pages' contents
abbrev pub operation_by : Meaning → List ℕ → Result (ℕ × ℕ) ℕ → Operation
operation_by k body (Ok (reads, writes)) = record { reads = has reads; writes = has writes; effect = λ old. shares writes (k.effect body (flat_map old (pages reads))) }
operation_by k body (Err c) = record { reads = λ _. false; writes = λ _. false; effect = λ _. None }

abbrev pub operation_of : Meaning → List ℕ → Operation
operation_of k body = operation_by k body (k.scope body)

-- the log holds exactly the operations of the history from its first number up to n: each as a record without fault
pub record LogHolds (k : Meaning) (m : Device) (h : History) (n : ℕ) : Type 0 where
  pub header : header_in (block_at m 0) ≡ Some h.first
  pub ends : end_of m h.first 128 ≡ n
  pub numbered : n ≤ last_number
  pub faultless : (i : ℕ) → h.first ≤ i → i < n → record_fault k i (record_block m i) ≡ None
  pub operations : (i : ℕ) → h.first ≤ i → i < n → h.operation i ≡ operation_of k (entry_of (record_block m i)).body

-- what the up volume is that a mount gives: well, with exactly the pages, contents and numbers, that all operations give; those that are
-- not installed, and no others, were redone and are dirty
pub record Shown (h : History) (I : ℕ → Bool) (n : ℕ) (v : Volume) : Type 0 where
  pub well : v.status ≡ Ok tt
  pub first : v.first ≡ h.first
  pub next : v.next ≡ n
  pub working : (p : ℕ) → working_pages v p ≡ after h n p
  pub redone : Lists v.dirty h I n

-- A mount recovers: whatever history the log holds, and whichever of its operations are installed, if a prefix of them explains the stored
-- pages and these bear its numbers, then the mount passes and shows what all operations give.
abbrev pub MountRecovers : Meaning → Ends → Type 0
MountRecovers k e =
    (h : History) (I : ℕ → Bool) (n : ℕ) → too_short e.log e.store ≡ false → LogHolds k e.log h n → Ran h n
    → Recoverable h I n (stored_pages e.store) → Shown h I n (mounted k e)
