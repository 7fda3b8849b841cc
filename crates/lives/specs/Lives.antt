-- Lives: what the calls make of a volume from an accepted format on.
use Rattle.std.specs.Prelude.{◌≡◌, ℕ, ◌-◌, ◌≤◌, List, [], ◌∷◌, length, Some, None, Ok, Err, Option, Result, MatchOption}
use Rattle.sets.specs.Sets.{size}
use Rattle.faults.specs.Faults.{Report}
use Rattle.media.specs.declared.fate.Fate.{Fate}
use Rattle.media.specs.declared.fate.Fate.TheVariants.{Lives}
use Rattle.media.specs.Media.{Device}
use Rattle.kinds.specs.Kinds.{Meaning}
use Rattle.volume.specs.LogReading.{last_number}
use Rattle.volume.specs.Statuses.{halted_by}
use Rattle.volume.specs.Volumes.{Ends, Volume, run_fault, after_run}
use Rattle.volume.specs.Forcing.{Logged, ForcedWell, Forced, Trimmed}
use Rattle.volume.specs.Forcing.Logged.{all, dies, goes}
use Rattle.volume.specs.Flushing.{Flushed}
use Rattle.volume.specs.Formatting.{Formatted}
use Rattle.volume.specs.Mounting.{mounted}
use Rattle.lives.specs.Books.{Event}
use Rattle.lives.specs.Books.Event.{run, force, flush, trim, stop, mount}

-- a volume between two calls
pub data State : Type 0 where
  down : Ends → State
  up : Volume → State

-- what a stop hands back
abbrev pub ends_of : Volume → Ends
ends_of v = record { log = v.log; store = v.store; plan = v.plan }

-- the two ends, down or up
abbrev pub ends : State → Ends
ends (down e) = e
ends (up v) = ends_of v

-- an answer: this value, or the report of the fault
abbrev pub answered : ℕ → Option Report → Result ℕ Report
answered n None = Ok n
answered n (Some r) = Err r

-- the fate of the write at which some records' writing ended; it lives where all were written
unfoldable pub fate_in : {m m' : Device} {bs left : List (List ℕ)} {o : Option Report} → Logged m bs o m' left → Fate
fate_in all = Lives
fate_in (dies f w) = f
fate_in (goes f w rest) = fate_in rest

-- the fate of a force: a halted volume writes nothing
abbrev pub fate_by : (v v' : Volume) (o h : Option Report) → MatchOption h (ForcedWell v o v') (λ r. (o ≡ Some r) × (v' ≡ v)) → Fate
fate_by v v' o None c = fate_in c.logged
fate_by v v' o (Some r) c = Lives

-- one call: the volume before, the call with its answer, the volume after
pub data Steps (k : Meaning) : State → Event → State → Type 0 where
  runs : (v : Volume) (body : List ℕ)
      → Steps k (up v) (run body (answered v.next (run_fault k v body))) (up (after_run k v body))
  forces : {v v' : Volume} (o : Option Report) (c : Forced v o v')
      → Steps k (up v) (force (answered (v.next - 1) o) (fate_by v v' o (halted_by v.status) c)) (up v')
  flushes : {v v' : Volume} {page : ℕ} (group : ℕ) (o : Option Report) → Flushed v page group o v'
      → Steps k (up v) (flush page (answered (size group) o)) (up v')
  trims : {v v' : Volume} (o : Option Report) → Trimmed v o v'
      → Steps k (up v) (trim (answered v'.first o)) (up v')
  stops : (v : Volume)
      → Steps k (up v) (stop (length v.waiting)) (down (ends_of v))
  mounts : (e : Ends)
      → Steps k (down e) (mount (answered (length (mounted k e).dirty) (halted_by (mounted k e).status))) (up (mounted k e))

-- A life: an accepted format with first number f, and then one call after another. The newest event stands first. (Numbers are of 32 bits.)
pub data Life (k : Meaning) (f : ℕ) : List Event → State → Type 0 where
  formatted : (e : Ends) {e' : Ends} → f ≤ last_number → Formatted f e None e' → Life k f [] (down e')
  then : {es : List Event} {e : Event} {s s' : State} → Life k f es s → Steps k s e s' → Life k f (e ∷ es) s'

-- a life goes on: calls after a point of it, the newest first
pub data GoesOn (k : Meaning) : State → List Event → State → Type 0 where
  here : {s : State} → GoesOn k s [] s
  then : {es : List Event} {e : Event} {s s₁ s' : State} → GoesOn k s es s₁ → Steps k s₁ e s' → GoesOn k s (e ∷ es) s'
