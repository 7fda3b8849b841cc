-- The law, from what book and volume keep.
use Rattle.std.proofs.Common.{◌≡◌, ℕ, ◌+◌, ◌<◌, Bool, true, List, length, sym, ap, ◌∙◌, subst, inl, inr}
use Rattle.std.proofs.lemmas.Bool.{cases_Bool}
use Rattle.kinds.specs.Kinds.{Meaning, Lawful}
use Rattle.redo.specs.Histories.{writes, after}
use Rattle.redo.specs.WriteGraph.{Dirty, GroupCount}
use Rattle.redo.proofs.HistoryLaws.{writes-from, image-all}
use Rattle.redo.proofs.InstallLaws.{uninstalled-from}
use Rattle.redo.proofs.GraphLaws.{groups-part, no_circle}
use Rattle.redo.proofs.ReadyLaws.{some_ready}
use Rattle.redo.proofs.RecoveryLaws.{installed-recoverable}
use Rattle.graph.proofs.ListLaws.{listed-graph}
use Rattle.volume.specs.Volumes.{Ends, Volume}
use Rattle.volume.specs.Surviving.{stored_pages, MountRecovers}
use Rattle.lives.specs.Books.{Event, Book, next_of, book_of, history_of, flushes}
use Rattle.lives.specs.Lives.{State, ends_of, ends, Life}
use Rattle.lives.specs.Lives.State.{down, up}
use Rattle.lives.specs.Laws.{dirty_in, Working, Flushable, IfWell, Law}
use Rattle.lives.proofs.Keeping.{Keeps, Kept, Upheld, Booked}
use Rattle.lives.proofs.RunFacts.{AllWellFormed}
use Rattle.lives.proofs.FlushFacts.{listed-finite}
use Rattle.lives.proofs.MountFacts.{mount-recovered}
use Rattle.lives.proofs.LifeFacts.{life-keeps, quiet-logged}
use Rattle.lives.proofs.CleanFacts.{ready-passes}
use Rattle.lives.proofs.GroupFacts.{Tracked, groups-counted, flushed-clean}

-- ---- a

module _ (k : Meaning) (b : Book) (v : Volume) (I : ℕ → Bool) (t : ℕ) (booked : Booked k b) (kept : Kept k b I t (ends_of v)) (upheld : Upheld k b I t v) where
  -- what writes a clean page is installed, and so the page is stored as all operations give it
  stored-clean : (p : ℕ) → (Dirty (dirty_in v) p → ⊥) → stored_pages v.store p ≡ after (history_of k b) (next_of b) p
  stored-clean p clean = kept.installed.images p ∙ image-all (history_of k b) I (next_of b) p installed-at
    where
      installed-at : (m : ℕ) → m < next_of b → writes (history_of k b) m p ≡ true → I m ≡ true
      installed-at m below w = elim (cases_Bool (I m)) [
        | inl i ↦ i
        | inr out ↦ absurd (clean (((listed-graph v.dirty (history_of k b) I (next_of b) upheld.lists).dirty p).1
            (m, uninstalled-from (history_of k b) I (next_of b) m (writes-from (history_of k b) m p w) below out, w)))
      ]

  working-law : Working (history_of k b) I (next_of b) v
  working-law = record {
    next = upheld.next;
    dirty = upheld.lists;
    groups = groups-part (dirty_in v);
    no_circle = no_circle (dirty_in v);
    working = upheld.working;
    clean = λ p clean. stored-clean p clean ∙ sym (upheld.working p);
  }

  tracked-at : (i : ℕ) → GroupCount (dirty_in v) i → Tracked (after (history_of k b) (next_of b)) v i
  tracked-at i c = record { places = length v.dirty; finite = listed-finite k b v I t booked kept upheld; counted = c; stored = stored-clean }

-- ---- the whole

module _ (k : Meaning) (law : Lawful k) (wf : AllWellFormed k) (recovers : (e : Ends) → MountRecovers k e) (f : ℕ) where
  well-law : (b : Book) (s : State) (keeps : Keeps k b s) → IfWell (Working (history_of k b) keeps.I (next_of b)) s
  well-law b (up v) keeps = λ well. working-law k b v keeps.I keeps.t keeps.booked keeps.kept (keeps.upheld well)
  well-law b (down e) keeps = tt

  -- c
  flushable-law : (b : Book) (s : State) → Keeps k b s → b.logged ≡ length b.bodies → IfWell (Flushable k (history_of k b) (next_of b)) s
  flushable-law b (up v) keeps logged = λ well.
      let upheld = keeps.upheld well in
      let finite = listed-finite k b v keeps.I keeps.t keeps.booked keeps.kept upheld in
      let counted = groups-counted (dirty_in v) (length v.dirty) finite in
      record {
        some_ready = λ p dirty. some_ready (dirty_in v) (length v.dirty) p finite dirty;
        flush_passes = ready-passes k b v keeps.I keeps.t keeps.booked keeps.kept upheld well (ap (λ j. b.first + j) logged);
        groups = counted.0;
        counted = counted.1;
        all_flushed = λ es s goes no_run same. flushed-clean k law wf recovers v es s b keeps well goes no_run
            (tracked-at k b v keeps.I keeps.t keeps.booked keeps.kept upheld (flushes es) (subst (GroupCount (dirty_in v)) (sym same) counted.1));
      }
  flushable-law b (down e) keeps logged = tt

  pub law-at : (es : List Event) (s : State) → Life k f es s → Law k f es s
  law-at es s life =
      let keeps = life-keeps k law wf recovers f life in
      record {
        I = keeps.I;
        explained = installed-recoverable (history_of k (book_of f es)) keeps.I (next_of (book_of f es)) (stored_pages (ends s).store) keeps.kept.installed;
        installed_logged = keeps.kept.in_log;
        working = well-law (book_of f es) s keeps;
        recovered = mount-recovered k law (book_of f es) (ends s) keeps.I keeps.t keeps.booked keeps.kept (recovers (ends s));
        acknowledged = keeps.booked.told;
        logged = keeps.booked.survives;
        flushable = λ q. flushable-law (book_of f es) s keeps (quiet-logged k law wf recovers f life q);
      }
