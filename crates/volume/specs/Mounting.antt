-- Mount: the volume that a log and a page store give.
use Rattle.std.specs.Prelude.{ℕ, zero, suc, ◌+◌, ◌-◌, Bool, cond, not, ◌||◌, List, [], ◌∷◌, ◌++◌, replicate, Some, None, Ok, Err, Option, Result, nat_le, nat_lt}
use Rattle.sets.specs.Sets.{has}
use Rattle.faults.specs.declared.fault.Fault.TheVariants.{BadHeader, TooShort, NumberAhead, PartlyInstalled, RedoRefused}
use Rattle.faults.specs.Faults.{Report, report}
use Rattle.media.specs.Media.{Device, block_at, check, powered}
use Rattle.stores.specs.Stores.{powered as revived}
use Rattle.kinds.specs.Kinds.{Meaning}
use Rattle.logblocks.specs.Blocks.{Entry, entry_of, header_in}
use Rattle.graph.specs.declared.op.Op.{Op}
use Rattle.redo.specs.Recovery.{every}
use Rattle.volume.specs.Working.{image_at, number_of, taken, written}
use Rattle.volume.specs.LogReading.{record_block, end_of, record_fault}
use Rattle.volume.specs.Performing.{outcome}
use Rattle.volume.specs.Statuses.{fault_of}
use Rattle.volume.specs.Volumes.{Ends, Volume, or_else}
use Rattle.volume.specs.Formatting.{too_short}

-- the first fault among n checks
unfoldable pub first_fault : (ℕ → Option Report) → ℕ → Option Report
first_fault f zero = None
first_fault f (suc n) = or_else (first_fault f n) (f n)

-- what record n of the log says
abbrev pub entry_at : Device → ℕ → Entry
entry_at m n = entry_of (record_block m n)

-- a record is installed when its written pages all bear numbers at or above its own, and is missing when all bear numbers below
abbrev pub is_installed : Entry → ℕ → (ℕ → List ℕ) → Bool
is_installed e n images = every 64 (λ p. not (has e.writes p) || nat_le n (number_of (images p)))

abbrev pub is_missing : Entry → ℕ → (ℕ → List ℕ) → Bool
is_missing e n images = every 64 (λ p. not (has e.writes p) || nat_lt (number_of (images p)) n)

-- what a mount has come to: the pages, and the operations redone, in order
pub record Redone : Type 0 where
  pub images : ℕ → List ℕ
  pub ops : List Op

-- a missing record is redone: its written pages take contents and number, and it is dirty
abbrev pub redone_by : ℕ → Entry → Result (List ℕ) ℕ → Redone → Result Redone Report
redone_by n e (Ok new) s = Ok (record { images = written e.writes n new s.images; ops = s.ops ++ record { number = n; reads = e.reads; writes = e.writes } ∷ [] })
redone_by n e (Err c) s = Err (report (RedoRefused n c))

-- one record: left if installed, redone if missing, and refused if neither
abbrev pub redo_uninstalled : Meaning → ℕ → Entry → Redone → Result Redone Report
redo_uninstalled k n e s = cond (is_missing e n s.images) (redone_by n e (outcome k e.body e.reads s.images) s) (Err (report (PartlyInstalled n)))

abbrev pub record_redone : Meaning → ℕ → Entry → Redone → Result Redone Report
record_redone k n e s = cond (is_installed e n s.images) (Ok s) (redo_uninstalled k n e s)

-- the first i records from number f on, in order
abbrev pub and_then : Result Redone Report → (Redone → Result Redone Report) → Result Redone Report
and_then (Ok s) next = next s
and_then (Err r) next = Err r

unfoldable pub records_redone : Meaning → Device → ℕ → ℕ → Redone → Result Redone Report
records_redone k m f zero s = Ok s
records_redone k m f (suc i) s = and_then (records_redone k m f i s) (record_redone k (f + i) (entry_at m (f + i)))

-- the checks of all records, and of the stored pages' numbers against the next one
abbrev pub records_fault : Meaning → Device → ℕ → ℕ → Option Report
records_fault k m f n = first_fault (λ i. record_fault k (f + i) (record_block m (f + i))) n

abbrev pub ahead_fault : (ℕ → List ℕ) → ℕ → Option Report
ahead_fault images next = first_fault (λ p. check (nat_le next (number_of (images p))) (report (NumberAhead p)) None) 64

-- a log of which the first number is known: its checks, then redo from the stored pages
abbrev pub unless_fault : Option Report → Result Redone Report → Result Redone Report
unless_fault None r = r
unless_fault (Some f) r = Err f

abbrev pub recovered_from : Meaning → Device → (ℕ → List ℕ) → ℕ → Result Redone Report
recovered_from k m images f =
    unless_fault (or_else (records_fault k m f (end_of m f 128 - f)) (ahead_fault images (end_of m f 128)))
    (records_redone k m f (end_of m f 128 - f) (record { images = images; ops = [] }))

-- the up volume: no record waits, and what was redone is dirty
abbrev pub mounted_well : Ends → ℕ → ℕ → Redone → Volume
mounted_well e f next s = record {
  log = powered e.log;
  store = revived e.store;
  plan = e.plan;
  images = s.images;
  waiting = [];
  dirty = s.ops;
  first = f;
  next = next;
  status = Ok tt;
}

-- refused it is up and halted with that fault; its pages are blank and it has no operations
abbrev pub blank_pages : ℕ → List ℕ
blank_pages p = image_at (replicate 16384 0) p

abbrev pub mounted_halted : Ends → Report → Volume
mounted_halted e r = record {
  log = powered e.log;
  store = revived e.store;
  plan = e.plan;
  images = blank_pages;
  waiting = [];
  dirty = [];
  first = 1;
  next = 1;
  status = Err (fault_of r);
}

abbrev pub mounted_by : Ends → ℕ → ℕ → Result Redone Report → Volume
mounted_by e f next (Ok s) = mounted_well e f next s
mounted_by e f next (Err r) = mounted_halted e r

abbrev pub mounted_at : Meaning → Ends → Option ℕ → Volume
mounted_at k e (Some f) = mounted_by e f (end_of e.log f 128) (recovered_from k e.log (taken e.store.image) f)
mounted_at k e None = mounted_halted e (report BadHeader)

-- a mount of a down volume e gives this up volume, and tells how many records it redid: as many as are dirty in it
abbrev pub mounted : Meaning → Ends → Volume
mounted k e = cond (too_short e.log e.store) (mounted_halted e (report TooShort)) (mounted_at k e (header_in (block_at e.log 0)))
