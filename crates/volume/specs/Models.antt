-- What a volume in code stands for.
use Rattle.std.specs.Prelude.{ℕ, List}
use Rattle.media.specs.Media.{Device}
use Rattle.media.specs.declared.medium.Medium as Medium
use Rattle.stores.specs.Stores.{Store}
use Rattle.stores.specs.declared.store.PageStore as PageStore
use Rattle.tables.specs.Waiting.{waiting}
use Rattle.tables.specs.DirtyOps.{dirty}
use Rattle.volume.specs.declared.down.Down.{Down}
use Rattle.volume.specs.declared.up.Up.{Up}
use Rattle.volume.specs.Working.{image_at}
use Rattle.volume.specs.Volumes.{Ends, Volume}

module _ {K L S : Type 0} where
  abbrev pub up_model : (L → Device) → (S → Store) → (S → ℕ → List ℕ) → Up K L S → Volume
  up_model log store plan u = record {
    log = log u.log;
    store = store u.store;
    plan = plan u.store;
    images = image_at u.pages.images;
    waiting = waiting u.waiting;
    dirty = dirty u.dirty;
    first = u.first;
    next = u.next;
    status = u.status;
  }

  abbrev pub down_model : (L → Device) → (S → Store) → (S → ℕ → List ℕ) → Down K L S → Ends
  down_model log store plan d = record { log = log d.log; store = store d.store; plan = plan d.store }

  -- the same by what is told of the log's medium and of the store
  abbrev pub up_over : Medium.Ghosts L → PageStore.Ghosts S → Up K L S → Volume
  up_over log store u = up_model log.model store.meaning store.plan u

  abbrev pub down_over : Medium.Ghosts L → PageStore.Ghosts S → Down K L S → Ends
  down_over log store d = down_model log.model store.meaning store.plan d
