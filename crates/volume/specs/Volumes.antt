-- A volume, down and up, and the calls of an up one that write to neither end.
use Rattle.std.specs.Prelude.{◌≡◌, ℕ, ◌+◌, ◌-◌, not, List, length, Some, None, Ok, Err, Option, Result, ◌==◌, nat_le, nat_lt}
use Rattle.faults.specs.declared.fault.Fault.TheVariants.{NoSuchPage, WrongLength, BodyRefused, WaitingFull, LogFull, NumbersSpent, PagesRefused}
use Rattle.faults.specs.Faults.{Report, report}
use Rattle.media.specs.Media.{Device, check}
use Rattle.stores.specs.Stores.{Store}
use Rattle.kinds.specs.Kinds.{Meaning}
use Rattle.logblocks.specs.Blocks.{block_of}
use Rattle.graph.specs.declared.op.Op.{Op}
use Rattle.graph.specs.Ops.{dirty_ops, Pages}
use Rattle.redo.specs.WriteGraph.{Dirty, SameGroup, DirectlyBefore}
use Rattle.tables.specs.Waiting.{pushed as waits_too}
use Rattle.tables.specs.DirtyOps.{pushed as dirty_too}
use Rattle.volume.specs.Statuses.{halting, Status}
use Rattle.volume.specs.LogReading.{last_number}
use Rattle.volume.specs.Working.{written}
use Rattle.volume.specs.Performing.{outcome}

-- a down volume is its two ends: the log's medium and the page store, which says for each set the blocks that an install writes
pub record Ends : Type 0 where
  pub log : Device
  pub store : Store
  pub plan : ℕ → List ℕ

-- an up volume has also the working pages' images, the records that wait, the dirty operations, the log's first number, the next
-- number, and whether it is well
pub record Volume : Type 0 where
  pub log : Device
  pub store : Store
  pub plan : ℕ → List ℕ
  pub images : ℕ → List ℕ
  pub waiting : List (List ℕ)
  pub dirty : List Op
  pub first : ℕ
  pub next : ℕ
  pub status : Status

-- the first of two faults
abbrev pub or_else : Option Report → Option Report → Option Report
or_else (Some r) o = Some r
or_else None o = o

-- a halted volume answers its fault ahead of all checks
abbrev pub unless_halted : Status → Option Report → Option Report
unless_halted (Ok x) o = o
unless_halted (Err f) o = Some (report f)

-- the volume once it has taken note of how a call ended
abbrev pub noted : Option Report → Volume → Volume
noted o v = record {
  log = v.log;
  store = v.store;
  plan = v.plan;
  images = v.images;
  waiting = v.waiting;
  dirty = v.dirty;
  first = v.first;
  next = v.next;
  status = halting v.status o;
}

-- ---- run

-- after the body's length and the kind's word on it: room in memory, room in the log, a number left
abbrev pub room_fault : Volume → Option Report
room_fault v =
    check (nat_le 16 (length v.waiting)) (report WaitingFull)
    (check (nat_le 128 (v.next - v.first)) (report LogFull)
    (check (v.next == last_number) (report (NumbersSpent v.next))
    None))

abbrev pub scope_fault : Volume → Result (ℕ × ℕ) ℕ → Option Report
scope_fault v (Ok s) = room_fault v
scope_fault v (Err c) = Some (report (BodyRefused c))

-- the checks of a run but the last
abbrev pub admit_fault : Meaning → Volume → List ℕ → Option Report
admit_fault k v body = unless_halted v.status (check (nat_lt 232 (length body)) (report (WrongLength (length body))) (scope_fault v (k.scope body)))

-- the last: the kind's word on the pages
abbrev pub pages_fault : Result (List ℕ) ℕ → Option Report
pages_fault (Ok new) = None
pages_fault (Err c) = Some (report (PagesRefused c))

-- the volume after an operation that gave new contents: the written pages have them and its number, its record waits, it is dirty
abbrev pub with_operation : List ℕ → ℕ → ℕ → List ℕ → Volume → Volume
with_operation body reads writes new v = record {
  log = v.log;
  store = v.store;
  plan = v.plan;
  images = written writes v.next new v.images;
  waiting = waits_too v.waiting (block_of (record { number = v.next; reads = reads; writes = writes; body = body }));
  dirty = dirty_too v.dirty (record { number = v.next; reads = reads; writes = writes });
  first = v.first;
  next = v.next + 1;
  status = v.status;
}

abbrev pub entered : Result (List ℕ) ℕ → List ℕ → ℕ → ℕ → Volume → Volume
entered (Ok new) body reads writes v = with_operation body reads writes new v
entered (Err c) body reads writes v = v

-- an admitted body, by its sets: the fault, and the volume after
abbrev pub enter_fault : Meaning → Volume → List ℕ → Result (ℕ × ℕ) ℕ → Option Report
enter_fault k v body (Ok (reads, writes)) = pages_fault (outcome k body reads v.images)
enter_fault k v body (Err c) = None

abbrev pub enter_after : Meaning → Volume → List ℕ → Result (ℕ × ℕ) ℕ → Volume
enter_after k v body (Ok (reads, writes)) = entered (outcome k body reads v.images) body reads writes v
enter_after k v body (Err c) = v

abbrev pub unless_refused : Option Report → Volume → Volume → Volume
unless_refused (Some r) v w = v
unless_refused None v w = w

-- run: what it answers, and the volume after; accepted it answers its number, the next number before it
abbrev pub run_fault : Meaning → Volume → List ℕ → Option Report
run_fault k v body = or_else (admit_fault k v body) (enter_fault k v body (k.scope body))

abbrev pub after_run : Meaning → Volume → List ℕ → Volume
after_run k v body = unless_refused (admit_fault k v body) v (enter_after k v body (k.scope body))

-- ---- page: one working image

abbrev pub page_fault : Volume → ℕ → List ℕ → Option Report
page_fault v p buffer =
    unless_halted v.status
    (check (nat_le 64 p) (report (NoSuchPage p))
    (check (not (length buffer == 256)) (report (WrongLength (length buffer)))
    None))

-- what the buffer holds after: the image, or what it held where the call is refused
abbrev pub filled_with : Option Report → List ℕ → List ℕ → List ℕ
filled_with None image buffer = image
filled_with (Some r) image buffer = buffer

-- ---- group: a page's group, and all pages in groups directly before it

abbrev pub group_fault : Volume → ℕ → Option Report
group_fault v p = unless_halted v.status (check (nat_le 64 p) (report (NoSuchPage p)) None)

-- the groups that a volume tells are those of its dirty operations
pub record Told (dirty : List Op) (p : ℕ) (sets : ℕ × ℕ) : Type 0 where
  pub group : Pages sets.0 (λ q. SameGroup (dirty_ops dirty) q p)
  pub before : Pages sets.1 (λ q. DirectlyBefore (dirty_ops dirty) q p)
  -- both are empty if the page is clean
  pub clean : (Dirty (dirty_ops dirty) p → ⊥) → (sets.0 ≡ 0) × (sets.1 ≡ 0)
