-- A mount reads the same of ends that were powered on before.
use Rattle.std.proofs.Common.{◌≡◌, ℕ, zero, suc, ◌+◌, ◌-◌, ◌≤◌, cond, not, ◌&&◌, eqb, List, [], length, replicate, Some, None, Ok, Err, Option, Result, sym, refl, ap, ◌∙◌, ap₂}
use Rattle.faults.specs.declared.fault.Fault.{Fault}
use Rattle.faults.specs.declared.fault.Fault.TheVariants.{NoSuchPage, NoSuchBlock, WrongLength, PowerLost, BodyRefused, WaitingFull, LogFull, NumbersSpent, PagesRefused, PageClean, GroupBefore, RecordWaiting, BadHeader, TooShort, BadRecord, SetsDiffer, PartlyInstalled, NumberAhead, RedoRefused, RootFull, NotFilePage, NotTreePage}
use Rattle.faults.specs.Faults.{Report, report}
use Rattle.media.specs.Media.{Device, block_at, powered}
use Rattle.stores.specs.Stores.{Store, State, Live, Dead, Short, powered as revived}
use Rattle.kinds.specs.Kinds.{Meaning}
use Rattle.logblocks.specs.Blocks.{header_in}
use Rattle.tables.specs.declared.dirty_ops.DirtyOps.{DirtyOps}
use Rattle.tables.specs.DirtyOps.{dirty}
use Rattle.volume.specs.declared.pages.WorkingPages.{WorkingPages}
use Rattle.volume.specs.declared.recovered.Recovered.{Recovered}
use Rattle.volume.specs.Working.{image_at, taken}
use Rattle.volume.specs.LogReading.{last_number, bears, end_of}
use Rattle.volume.specs.Volumes.{Ends, Volume, or_else}
use Rattle.volume.specs.Statuses.{fault_of, Status}
use Rattle.volume.specs.Formatting.{too_short}
use Rattle.volume.specs.Mounting.{entry_at, Redone, record_redone, and_then, records_redone, records_fault, ahead_fault, unless_fault, recovered_from, blank_pages, mounted_halted, mounted_by, mounted_at, mounted}
use Rattle.volume.specs.Recovering.{ends_of, up_by}

end_powered : (m : Device) (n k : ℕ) → end_of (powered m) n k ≡ end_of m n k
unfolding end_of
end_powered m n zero = refl
end_powered m n (suc k) = ap (λ x. cond (not (eqb n last_number) && bears m n) x n) (end_powered m (n + 1) k)

module _ (k : Meaning) (m : Device) where
  redo-powered : (f i : ℕ) (s : Redone) → records_redone k (powered m) f i s ≡ records_redone k m f i s
  unfolding records_redone
  redo-powered f zero s = refl
  redo-powered f (suc i) s = ap (λ x. and_then x (record_redone k (f + i) (entry_at m (f + i)))) (redo-powered f i s)

  recovered-powered : (images : ℕ → List ℕ) (f : ℕ) → recovered_from k (powered m) images f ≡ recovered_from k m images f
  recovered-powered images f =
      ap (λ n. unless_fault (or_else (records_fault k m f (n - f)) (ahead_fault images n)) (records_redone k (powered m) f (n - f) (record { images = images; ops = [] }))) (end_powered m f 128)
      ∙ ap (unless_fault (or_else (records_fault k m f (end_of m f 128 - f)) (ahead_fault images (end_of m f 128))))
      (redo-powered f (end_of m f 128 - f) (record { images = images; ops = [] }))

  module _ (image : ℕ → List ℕ) (plan : ℕ → List ℕ) where
    abbrev ends : State → Ends
    ends t = ends_of m (record { image = image; state = t }) plan

    abbrev lit : State → Ends
    lit t = ends_of (powered m) (revived (record { image = image; state = t })) plan

    by_powered : (t : State) (f n : ℕ) (r : Result Redone Report) → mounted_by (lit t) f n r ≡ mounted_by (ends t) f n r
    by_powered Live f n (Ok s) = refl
    by_powered Dead f n (Ok s) = refl
    by_powered Short f n (Ok s) = refl
    by_powered Live f n (Err r) = refl
    by_powered Dead f n (Err r) = refl
    by_powered Short f n (Err r) = refl

    at-powered : (t : State) (o : Option ℕ) → mounted_at k (lit t) o ≡ mounted_at k (ends t) o
    at-powered t (Some f) =
        ap₂ (mounted_by (lit t) f) (end_powered m f 128) (recovered-powered (taken image) f)
        ∙ by_powered t f (end_of m f 128) (recovered_from k m (taken image) f)
    at-powered Live None = refl
    at-powered Dead None = refl
    at-powered Short None = refl

    mounted-lit : (t : State) → mounted k (lit t) ≡ mounted k (ends t)
    mounted-lit Live = ap (cond (too_short m (record { image = image; state = Live })) (mounted_halted (ends Live) (report TooShort))) (at-powered Live (header_in (block_at m 0)))
    mounted-lit Dead = ap (cond (too_short m (record { image = image; state = Dead })) (mounted_halted (ends Dead) (report TooShort))) (at-powered Dead (header_in (block_at m 0)))
    mounted-lit Short = ap (cond (too_short m (record { image = image; state = Short })) (mounted_halted (ends Short) (report TooShort))) (at-powered Short (header_in (block_at m 0)))

revived-twice : (s : Store) → revived (revived s) ≡ revived s
revived-twice s = go s.state
  where
    go : (t : State) → revived (revived (record { image = s.image; state = t })) ≡ revived (record { image = s.image; state = t })
    go Live = refl
    go Dead = refl
    go Short = refl

-- a volume that is what a mount makes of the ends once they are powered on, is what it makes of the ends
pub up_is : (k : Meaning) (m m' : Device) (s s' : Store) (plan plan' : ℕ → List ℕ) (v : Device → Store → (ℕ → List ℕ) → Volume)
    → m' ≡ powered m → s' ≡ revived s → plan' ≡ plan → v (powered m') (revived s') plan' ≡ mounted k (ends_of m' s' plan') → v m' s' plan' ≡ mounted k (ends_of m s plan)
up_is k m m' s s' plan plan' v em es ep h =
    ap₂ (λ d t. v d t plan') (em ∙ sym (ap powered em)) (es ∙ sym (ap revived es ∙ revived-twice s))
    ∙ h
    ∙ ap₂ (λ d t. mounted k (ends_of d t plan')) em es
    ∙ ap (λ p. mounted k (ends_of (powered m) (revived s) p)) ep
    ∙ mounted-powered
  where
    mounted-powered : mounted k (ends_of (powered m) (revived s) plan) ≡ mounted k (ends_of m s plan)
    mounted-powered = mounted-lit k m s.image plan s.state

-- the volumes that the code builds, by what they hold in memory; no record waits
module _ (waits : List (List ℕ)) (x : Recovered) (status : Status) where
  abbrev pub built : Device → Store → (ℕ → List ℕ) → Volume
  built m s plan = record {
    log = m;
    store = s;
    plan = plan;
    images = image_at x.rebuilt.pages.images;
    waiting = waits;
    dirty = dirty x.rebuilt.dirty;
    first = x.first;
    next = x.next;
    status = status;
  }

pub built-none : (waits : List (List ℕ)) (x : Recovered) (status : Status) (m : Device) (s : Store) (plan : ℕ → List ℕ) → waits ≡ []
    → built waits x status (powered m) (revived s) plan ≡ up_by (ends_of m s plan) x status
built-none waits x status m s plan e = ap (λ w. built w x status (powered m) (revived s) plan) e

-- each fault is the one that its report tells
pub fault-back : (f : Fault) → fault_of (report f) ≡ f
fault-back (NoSuchPage p) = refl
fault-back (NoSuchBlock b) = refl
fault-back (WrongLength n) = refl
fault-back (PowerLost b) = refl
fault-back (BodyRefused c) = refl
fault-back WaitingFull = refl
fault-back LogFull = refl
fault-back (NumbersSpent n) = refl
fault-back (PagesRefused c) = refl
fault-back (PageClean p) = refl
fault-back (GroupBefore p) = refl
fault-back (RecordWaiting n) = refl
fault-back BadHeader = refl
fault-back TooShort = refl
fault-back (BadRecord n c) = refl
fault-back (SetsDiffer n) = refl
fault-back (PartlyInstalled n) = refl
fault-back (NumberAhead p) = refl
fault-back (RedoRefused n c) = refl
fault-back RootFull = refl
fault-back (NotFilePage p) = refl
fault-back (NotTreePage p) = refl

-- a refused mount has blank pages and no operations
pub halted-blank : (e : Ends) (pages : WorkingPages) (ops : DirtyOps) (few : length (dirty ops) ≤ 128) (f : Fault) → pages.images ≡ replicate 16384 0 → dirty ops ≡ []
    → up_by e (record { rebuilt = record { pages = pages; dirty = ops; few = few }; first = 1; next = 1 }) (Err f) ≡ mounted_halted e (report f)
halted-blank e pages ops few f ep eo =
    ap₂ (λ x o. record {
      log = powered e.log;
      store = revived e.store;
      plan = e.plan;
      images = image_at x;
      waiting = [];
      dirty = o;
      first = 1;
      next = 1;
      status = Err f;
    }) ep eo
    ∙ ap (λ g. record {
      log = powered e.log;
      store = revived e.store;
      plan = e.plan;
      images = blank_pages;
      waiting = [];
      dirty = [];
      first = 1;
      next = 1;
      status = Err g;
    }) (sym (fault-back f))
