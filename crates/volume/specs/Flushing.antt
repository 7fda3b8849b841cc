-- Flush: a page's group is installed.
use Rattle.std.specs.Prelude.{◌≡◌, ℕ, ◌-◌, cond, not, List, length, Some, None, Option, MatchOption, ◌==◌, nat_le}
use Rattle.sets.specs.Sets.{lowest}
use Rattle.faults.specs.declared.fault.Fault.TheVariants.{NoSuchPage, PageClean, GroupBefore, RecordWaiting}
use Rattle.faults.specs.Faults.{Report, report}
use Rattle.media.specs.Media.{check}
use Rattle.stores.specs.Stores.{Store, Installed}
use Rattle.graph.specs.declared.op.Op.{Op}
use Rattle.tables.specs.DirtyOps.{kept, highest_among}
use Rattle.volume.specs.Working.{in_row}
use Rattle.volume.specs.Statuses.{halting}
use Rattle.volume.specs.Volumes.{Volume, Told}
use Rattle.volume.specs.Forcing.{ByStatus}

-- the first number that is not in the log yet: that of the first record that waits
abbrev pub first_waiting : Volume → ℕ
first_waiting v = v.next - length v.waiting

abbrev pub wait_fault : Option ℕ → Option Report
wait_fault None = None
wait_fault (Some n) = Some (report (RecordWaiting n))

-- what keeps page p from being flushed, with the set of its group and the set of the pages in groups directly before it
abbrev pub flush_check : Volume → ℕ → ℕ → ℕ → Option Report
flush_check v p group before =
    check (group == 0) (report (PageClean p))
    (check (not (before == 0)) (report (GroupBefore (lowest before)))
    (wait_fault (highest_among group (first_waiting v) v.dirty)))

-- the operations of the group are dirty no longer once it is installed
abbrev pub still_dirty : Option Report → ℕ → List Op → List Op
still_dirty None group ops = kept group ops
still_dirty (Some r) group ops = ops

abbrev pub with_store : Store → (ℕ → List ℕ) → ℕ → Option Report → Volume → Volume
with_store s plan group o v = record {
  log = v.log;
  store = s;
  plan = plan;
  images = v.images;
  waiting = v.waiting;
  dirty = still_dirty o group v.dirty;
  first = v.first;
  next = v.next;
  status = halting v.status o;
}

-- The group's pages, and no others, are installed in one install, with their working images. Which blocks the next install writes is the
-- store's own affair.
pub record GroupInstalled (v : Volume) (group : ℕ) (o : Option Report) (v' : Volume) : Type 0 where
  pub store : Store
  pub plan : ℕ → List ℕ
  pub installed : Installed v.store (v.plan group) group (in_row v.images) o store
  pub after : v' ≡ with_store store plan group o v

-- a flush of a page that there is, in a well volume: its group is what the volume tells
pub record FlushedWell (v : Volume) (p : ℕ) (group : ℕ) (o : Option Report) (v' : Volume) : Type 0 where
  pub before : ℕ
  pub told : Told v.dirty p (group, before)
  pub call : MatchOption (flush_check v p group before) (GroupInstalled v group o v') (λ r. (o ≡ Some r) × (v' ≡ v))

-- a flush of page p, whose group is the set `group`, answers o and leaves v'; accepted it answers how many pages the set holds
abbrev pub Flushed : Volume → ℕ → ℕ → Option Report → Volume → Type 0
Flushed v p group o v' = ByStatus v o v' (cond (nat_le 64 p) ((o ≡ Some (report (NoSuchPage p))) × (v' ≡ v)) (FlushedWell v p group o v'))
