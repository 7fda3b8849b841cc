-- What the redo of a mount in code stands for.
use Rattle.std.specs.Prelude.{ℕ, List, [], Some, None, Ok, Err, Option, Result}
use Rattle.faults.specs.declared.fault.Fault.{Fault}
use Rattle.faults.specs.Faults.{Report, report}
use Rattle.tables.specs.DirtyOps.{dirty}
use Rattle.media.specs.Media.{Device, powered}
use Rattle.media.specs.declared.medium.Medium as Medium
use Rattle.stores.specs.Stores.{Store, powered as revived}
use Rattle.stores.specs.declared.store.PageStore as PageStore
use Rattle.volume.specs.declared.recovered.Rebuilt.{Rebuilt}
use Rattle.volume.specs.declared.recovered.Recovered.{Recovered}
use Rattle.volume.specs.Statuses.{Status}
use Rattle.volume.specs.Working.{image_at}
use Rattle.volume.specs.Volumes.{Ends, Volume}
use Rattle.volume.specs.Mounting.{Redone, mounted_well, mounted_halted}

-- the pages and the operations redone, as they are in memory
abbrev pub redone_in : Rebuilt → Redone
redone_in x = record { images = image_at x.pages.images; ops = dirty x.dirty }

-- what a call comes to that leaves s where it passes
abbrev pub comes_to : {T : Type 0} → Result T Fault → Redone → Result Redone Report
comes_to (Ok x) s = Ok s
comes_to (Err f) s = Err (report f)

abbrev pub ends_of : Device → Store → (ℕ → List ℕ) → Ends
ends_of m s plan = record { log = m; store = s; plan = plan }

-- the same by what is told of the log's medium and of the store
abbrev pub ends_over : {L S : Type 0} → Medium.Ghosts L → PageStore.Ghosts S → L → S → Ends
ends_over log store l s = ends_of (log.model l) (store.meaning s) (store.plan s)

-- the up volume of two ends that are powered on, with what is in memory and its status
abbrev pub up_by : Ends → Recovered → Status → Volume
up_by e x status = record {
  log = powered e.log;
  store = revived e.store;
  plan = e.plan;
  images = image_at x.rebuilt.pages.images;
  waiting = [];
  dirty = dirty x.rebuilt.dirty;
  first = x.first;
  next = x.next;
  status = status;
}

-- the up volume with what a recovery came to
abbrev pub up_with : Ends → Result Recovered Fault → Volume
up_with e (Ok x) = mounted_well e x.first x.next (redone_in x.rebuilt)
up_with e (Err f) = mounted_halted e (report f)

-- the report of a fault, if there is one
abbrev pub report_of : Option Fault → Option Report
report_of None = None
report_of (Some f) = Some (report f)
