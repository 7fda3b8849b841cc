-- Groups counted through a life that goes on without a run or a mount: each accepted flush leaves one fewer, and nothing else changes them.
use Rattle.std.proofs.Common.{◌≡◌, ℕ, suc, ◌+◌, Bool, true, false, cond, not, ◌&&◌, ◌||◌, eqb, leb, List, length, Some, None, Ok, Err, Decides, Option, sym, refl, ap, ◌∙◌, subst, ap₂, inl, inr, arith, MatchOption}
use Rattle.std.specs.List.{AllByRecursion}
use Rattle.std.proofs.lemmas.Bool.{both_ways, cases_Bool, and_parts, and_from, or_cases, or_left, or_right, not-true, not_from_false, leb-true, le-leb}
use Rattle.sets.specs.Sets.{has, count, size}
use Rattle.faults.specs.declared.fault.Fault.TheVariants.{NoSuchPage, PowerLost}
use Rattle.faults.specs.Faults.{Report, report}
use Rattle.stores.specs.Stores.{Store, Ending, installed, end_fault, end_store, block_of}
use Rattle.stores.specs.Stores.Ending.{Passes, FailsOld, FailsNew}
use Rattle.media.specs.declared.fate.Fate.TheVariants.{Lives, DiesOld, DiesNew}
use Rattle.kinds.specs.Kinds.{Meaning, Lawful}
use Rattle.redo.specs.Histories.{page_count, Page, after}
use Rattle.redo.specs.WriteGraph.{Operations, Dirty, SameGroup, Finite, LowestOfGroup, GroupCount}
use Rattle.redo.specs.Installation.{IsGroup}
use Rattle.redo.specs.Theorems.{Rest}
use Rattle.redo.specs.Closure.{pages_below}
use Rattle.redo.specs.Recovery.{every}
use Rattle.redo.proofs.TestLaws.{every-from, every-at}
use Rattle.redo.proofs.ClosureLaws.{listed_below}
use Rattle.redo.proofs.DecideLaws.{group-test, group-decides}
use Rattle.redo.proofs.GraphLaws.{reach-from, group-self, group-sym, group-trans}
use Rattle.redo.proofs.CountLaws.{one-group_fewer, no_groups_clean_lem}
use Rattle.graph.specs.declared.op.Op.{Op}
use Rattle.graph.specs.Ops.{dirty_ops}
use Rattle.tables.specs.DirtyOps.{kept as kept_ops}
use Rattle.volume.specs.Statuses.{halted_by, halting, Status}
use Rattle.volume.specs.Volumes.{Ends, Volume, Told}
use Rattle.volume.specs.Forcing.{ForcedWell, trimmed_to, TrimmedWell}
use Rattle.volume.specs.Flushing.{flush_check, still_dirty, GroupInstalled, FlushedWell, Flushed}
use Rattle.volume.specs.Working.{in_row}
use Rattle.volume.specs.Surviving.{stored_pages, MountRecovers}
use Rattle.lives.specs.Books.{Event, Book, next_of, history_of, fed, neither_run_nor_mount, one_flush, flushes as flushes_in}
use Rattle.lives.specs.Books.Event.{run, force, flush, trim, stop, mount}
use Rattle.lives.specs.Lives.{State, answered, Steps, GoesOn}
use Rattle.lives.specs.Lives.State.{down, up}
use Rattle.lives.specs.Lives.Steps.{runs, forces, flushes, trims, stops, mounts}
use Rattle.lives.specs.Lives.GoesOn.{here, then}
use Rattle.lives.specs.Laws.{dirty_in, Clean}
use Rattle.lives.proofs.Keeping.{Keeps, Upheld}
use Rattle.lives.proofs.RunFacts.{AllWellFormed}
use Rattle.lives.proofs.FlushFacts.{listed-finite, p-dirty, stored_at, rest-lists, install_is, Unhindered, unhindered, flush-keeps_all}
use Rattle.lives.proofs.LifeFacts.{step_keeps}

-- ---- what is left of the groups once one is installed can be counted too

pub rest-count : (d e : Operations) (p : ℕ) (G : ℕ → Bool) (i : ℕ) → IsGroup d p G → Rest d e G → GroupCount d i → (j : ℕ) × GroupCount e j
rest-count d e p G i is-group rest c = (count f' page_count, (f', λ q. (low q, up' q), refl))
  where
    f' : ℕ → Bool
    f' q = c.0 q && not (G q)

    low : (q : ℕ) → f' q ≡ true → LowestOfGroup e q
    low q x =
        let two = and_parts (c.0 q) (not (G q)) x in
        let was = (c.1 q).0 two.0 in
        record {
          is_dirty = (rest.dirty q).1 (was.is_dirty, not-true (G q) two.1);
          least = λ y s. was.least y ((rest.groups y q).0 s).0;
        }

    outside : (q x : ℕ) → G q ≡ false → SameGroup d x q → G x ≡ false
    outside q x out s = elim (cases_Bool (G x)) [
      | inl in' ↦ absurd (both_ways (G q) out ((is-group q).1 (group-trans d q x p (group-sym d x q s) ((is-group x).0 in'))))
      | inr o ↦ o
    ]

    up' : (q : ℕ) → LowestOfGroup e q → f' q ≡ true
    up' q is =
        let was = (rest.dirty q).0 is.is_dirty in
        and_from (c.0 q) (not (G q))
        ((c.1 q).1 (record { is_dirty = was.0; least = λ x s. is.least x ((rest.groups x q).1 (s, outside q x was.1 s)) }))
        (not_from_false (G q) was.1)

-- ---- the groups of an up volume, counted, and its clean pages stored: as the pages w are

pub record Tracked (w : ℕ → Page) (v : Volume) (i : ℕ) : Type 0 where
  pub places : ℕ
  pub finite : Finite (dirty_in v) places
  pub counted : GroupCount (dirty_in v) i
  pub stored : (p : ℕ) → (Dirty (dirty_in v) p → ⊥) → stored_pages v.store p ≡ w p

abbrev pub Tracks : (ℕ → Page) → State → ℕ → Type 0
Tracks w (up v) i = Tracked w v i
Tracks w (down e) i = i ≡ 0 → (p : ℕ) → stored_pages e.store p ≡ w p

module _ (w : ℕ → Page) where
  -- nothing of it changes where neither the dirty operations nor the stored pages do
  same-tracked : (v v' : Volume) (i : ℕ) → v'.dirty ≡ v.dirty → ((p : ℕ) → (Dirty (dirty_in v) p → ⊥) → stored_pages v'.store p ≡ w p) → Tracked w v i → Tracked w v' i
  same-tracked v v' i e st t = record {
    places = t.places;
    finite = subst (λ (ops : List Op). Finite (dirty_ops ops) t.places) (sym e) t.finite;
    counted = subst (λ (ops : List Op). GroupCount (dirty_ops ops) i) (sym e) t.counted;
    stored = λ p clean. st p (λ x. clean (subst (λ (ops : List Op). Dirty (dirty_ops ops) p) (sym e) x));
  }

  same-all : (v v' : Volume) (i : ℕ) → v'.dirty ≡ v.dirty → v'.store ≡ v.store → Tracked w v i → Tracked w v' i
  same-all v v' i e s t = same-tracked v v' i e (λ p clean. ap (λ (x : Store). stored_pages x p) s ∙ t.stored p clean) t

forced-same : (v v' : Volume) (o h : Option Report) → MatchOption h (ForcedWell v o v') (λ r. (o ≡ Some r) × (v' ≡ v)) → (v'.dirty ≡ v.dirty) × (v'.store ≡ v.store)
forced-same v v' o None c = (ap (λ (x : Volume). x.dirty) c.after, ap (λ (x : Volume). x.store) c.after)
forced-same v v' o (Some r) c = (ap (λ (x : Volume). x.dirty) c.1, ap (λ (x : Volume). x.store) c.1)

trimmed-same : (v v' : Volume) (o h : Option Report) (x : Bool) → MatchOption h (cond x ((o ≡ None) × (v' ≡ v)) (TrimmedWell v o v')) (λ r. (o ≡ Some r) × (v' ≡ v))
    → (v'.dirty ≡ v.dirty) × (v'.store ≡ v.store)
trimmed-same v v' o None true c = (ap (λ (x : Volume). x.dirty) c.1, ap (λ (x : Volume). x.store) c.1)
trimmed-same v v' o None false c = (ap (λ (x : Volume). x.dirty) c.after, ap (λ (x : Volume). x.store) c.after)
trimmed-same v v' o (Some r) x c = (ap (λ (x : Volume). x.dirty) c.1, ap (λ (x : Volume). x.store) c.1)

-- a flush, by what it answers: one group fewer, or the same
abbrev Fewer : (ℕ → Page) → Volume → Option Report → ℕ → Type 0
Fewer w v' None i = (j : ℕ) × (i ≡ suc j) × Tracked w v' j
Fewer w v' (Some r) i = Tracked w v' i

module _ (k : Meaning) (b : Book) (v v' : Volume) (p group : ℕ) (o : Option Report) (i : ℕ) (keeps : Keeps k b (up v)) (well : v.status ≡ Ok tt) (before : ℕ)
    (told : Told v.dirty p (group, before)) (u : Unhindered v group before) (g : GroupInstalled v group o v') (tr : Tracked (after (history_of k b) (next_of b)) v i) where
  abbrev w : ℕ → Page
  w = after (history_of k b) (next_of b)

  abbrev G : ℕ → Bool
  G = has group

  upheld : Upheld k b keeps.I keeps.t v
  upheld = keeps.upheld well

  -- the stored pages after an install that left the new ones
  stored-new : g.store.image ≡ installed group (in_row v.images) v.store.image → (q : ℕ) → stored_pages v'.store q ≡ cond (G q) (w q) (stored_pages v.store q)
  stored-new e q =
      ap (λ (x : Volume). stored_pages x.store q) g.after
      ∙ stored_at k b v keeps.I keeps.t keeps.booked keeps.kept upheld p group before told u.some-group u.none_before u.none-waits g.store (λ y. ap (λ (f : ℕ → List ℕ). f y) e) q

  passes : g.store.image ≡ installed group (in_row v.images) v.store.image → o ≡ None → Keeps k b (up v') → (j : ℕ) × (i ≡ suc j) × Tracked w v' j
  passes im e keeps' =
      let new : v'.dirty ≡ kept_ops group v.dirty = ap (λ (x : Volume). x.dirty) g.after ∙ ap (λ (x : Option Report). still_dirty x group v.dirty) e in
      let rest : Rest (dirty_in v) (dirty_in v') G = subst (λ (ops : List Op). Rest (dirty_in v) (dirty_ops ops) G) (sym new)
      (rest-lists k b v keeps.I keeps.t keeps.booked keeps.kept upheld p group before told u.some-group u.none_before u.none-waits) in
      let left = rest-count (dirty_in v) (dirty_in v') p G i (λ q. told.group q) rest tr.counted in
      let well' : v'.status ≡ Ok tt = ap (λ (x : Volume). x.status) g.after ∙ ap₂ halting well e in (
        left.0,
        one-group_fewer (dirty_in v) (dirty_in v') tr.places p G i left.0 tr.finite
            (p-dirty k b v keeps.I keeps.t keeps.booked keeps.kept upheld p group before told u.some-group u.none_before u.none-waits) (λ q. told.group q) rest tr.counted left.1,
        record {
          places = length v'.dirty;
          finite = listed-finite k b v' keeps'.I keeps'.t keeps'.booked keeps'.kept (keeps'.upheld well');
          counted = left.1;
          stored = λ q clean. stored-new im q ∙ clean_at q (G q) refl (λ out x. clean ((rest.dirty q).1 (x, out)));
        },
      )
    where
      clean_at : (q : ℕ) (c : Bool) → G q ≡ c → (G q ≡ false → Dirty (dirty_in v) q → ⊥) → cond c (w q) (stored_pages v.store q) ≡ w q
      clean_at q true e clean = refl
      clean_at q false e clean = tr.stored q (clean e)

  fails : (r : Report) → o ≡ Some r → ((q : ℕ) → (Dirty (dirty_in v) q → ⊥) → stored_pages v'.store q ≡ w q) → Fewer w v' o i
  fails r e st = subst (λ (x : Option Report). Fewer w v' x i) (sym e)
      (same-tracked w v v' i (ap (λ (x : Volume). x.dirty) g.after ∙ ap (λ (x : Option Report). still_dirty x group v.dirty) e) st tr)

  installed-fewer : Keeps k b (up v') → Fewer w v' o i
  installed-fewer keeps' =
      let is = install_is k b v keeps.I keeps.t keeps.booked keeps.kept upheld p group before told u.some-group u.none_before u.none-waits well o g.store g.installed in
      ends g.installed.0 is.0 is.1
    where
      new-or_same : (q : ℕ) (c : Bool) → (Dirty (dirty_in v) q → ⊥) → cond c (w q) (stored_pages v.store q) ≡ w q
      new-or_same q true clean = refl
      new-or_same q false clean = tr.stored q clean

      ends : (e : Ending) → o ≡ end_fault e (v.plan group) → g.store ≡ end_store e group (in_row v.images) v.store → Fewer w v' o i
      ends Passes e s = subst (λ (x : Option Report). Fewer w v' x i) (sym e) (passes (ap (λ (x : Store). x.image) s) e keeps')
      ends (FailsOld a) e s = fails (report (PowerLost (block_of (v.plan group) a))) e (λ q clean.
          ap (λ (x : Volume). stored_pages x.store q) g.after ∙ ap (λ (x : Store). stored_pages x q) s ∙ tr.stored q clean)
      ends (FailsNew a) e s = fails (report (PowerLost (block_of (v.plan group) a))) e (λ q clean. stored-new (ap (λ (x : Store). x.image) s) q ∙ new-or_same q (G q) clean)

flushed-fewer : (k : Meaning) (b : Book) (v v' : Volume) (p group : ℕ) (o : Option Report) (i : ℕ) → Keeps k b (up v) → Flushed v p group o v'
    → Tracked (after (history_of k b) (next_of b)) v i → Fewer (after (history_of k b) (next_of b)) v' o i
flushed-fewer k b v v' p group o i keeps c tr = go v.status refl c
  where
    refused : (r : Report) → o ≡ Some r → v' ≡ v → Fewer (after (history_of k b) (next_of b)) v' o i
    refused r e s = subst (λ (x : Option Report). Fewer (after (history_of k b) (next_of b)) v' x i) (sym e)
        (same-all (after (history_of k b) (next_of b)) v v' i (ap (λ (x : Volume). x.dirty) s) (ap (λ (x : Volume). x.store) s) tr)

    checks : v.status ≡ Ok tt → (before : ℕ) → Told v.dirty p (group, before) → (x : Option Report) → flush_check v p group before ≡ x
        → MatchOption x (GroupInstalled v group o v') (λ r. (o ≡ Some r) × (v' ≡ v)) → Fewer (after (history_of k b) (next_of b)) v' o i
    checks well before told None ok g = installed-fewer k b v v' p group o i keeps well before told (unhindered v p group before ok) g tr (flush-keeps_all k b v v' p group o c keeps)
    checks well before told (Some r) ok g = refused r g.0 g.1

    pages : v.status ≡ Ok tt → (x : Bool) → cond x ((o ≡ Some (report (NoSuchPage p))) × (v' ≡ v)) (FlushedWell v p group o v') → Fewer (after (history_of k b) (next_of b)) v' o i
    pages well true g = refused (report (NoSuchPage p)) g.0 g.1
    pages well false g = checks well g.before g.told (flush_check v p group g.before) refl g.call

    go : (h : Status) → v.status ≡ h
        → MatchOption (halted_by h) (cond (leb 64 p) ((o ≡ Some (report (NoSuchPage p))) × (v' ≡ v)) (FlushedWell v p group o v')) (λ r. (o ≡ Some r) × (v' ≡ v)) → Fewer (after (history_of k b) (next_of b)) v' o i
    go (Ok u) well g = pages well (leb 64 p) g
    go (Err f) halted g = refused (report f) g.0 g.1

-- ---- one call, and a life that goes on

-- without a run or a mount the same operations survive
fed-same : (k : Meaning) (b : Book) (e : Event) → neither_run_nor_mount e ≡ true → after (history_of k (fed b e)) (next_of (fed b e)) ≡ after (history_of k b) (next_of b)
fed-same k b (run body answer) x = absurd (both_ways false refl x)
fed-same k b (force (Ok n) fate) x = refl
fed-same k b (force (Err r) Lives) x = refl
fed-same k b (force (Err r) DiesOld) x = refl
fed-same k b (force (Err r) DiesNew) x = refl
fed-same k b (flush page answer) x = refl
fed-same k b (trim answer) x = refl
fed-same k b (stop answer) x = refl
fed-same k b (mount answer) x = absurd (both_ways false refl x)

module _ (k : Meaning) (law : Lawful k) (wf : AllWellFormed k) (recovers : (e : Ends) → MountRecovers k e) where
  step-tracks : {s s' : State} {e : Event} → Steps k s e s' → neither_run_nor_mount e ≡ true → (b : Book) → Keeps k b s → (i : ℕ) → Tracks (after (history_of k b) (next_of b)) s i
      → (j : ℕ) × (j + one_flush e ≡ i) × Tracks (after (history_of k b) (next_of b)) s' j
  step-tracks (runs v body) no_run b keeps i t = absurd (both_ways false refl no_run)
  step-tracks (forces {v} {v'} o c) no_run b keeps i t =
      let same = forced-same v v' o (halted_by v.status) c in
      (i, omega arith, same-all (after (history_of k b) (next_of b)) v v' i same.0 same.1 t)
  step-tracks (flushes {v} {v'} {page} group o c) no_run b keeps i t = ends o (flushed-fewer k b v v' page group o i keeps c t)
    where
      ends : (o : Option Report) → Fewer (after (history_of k b) (next_of b)) v' o i
          → (j : ℕ) × (j + one_flush (flush page (answered (size group) o)) ≡ i) × Tracked (after (history_of k b) (next_of b)) v' j
      ends None f = (f.0, (let e = f.1 in omega arith), f.2)
      ends (Some r) f = (i, omega arith, f)
  step-tracks (trims {v} {v'} o c) no_run b keeps i t =
      let same = trimmed-same v v' o (halted_by v.status) (eqb (trimmed_to v) v.first) c in
      (i, omega arith, same-all (after (history_of k b) (next_of b)) v v' i same.0 same.1 t)
  step-tracks (stops v) no_run b keeps i t =
      (i, omega arith, λ none p. t.stored p (no_groups_clean_lem (dirty_in v) t.places t.finite (subst (GroupCount (dirty_in v)) none t.counted) p))
  step-tracks (mounts e) no_run b keeps i t = absurd (both_ways false refl no_run)

  -- where a life has come to that goes on: the groups left and the flushes accepted are as many as the groups were
  record Tracking (w : ℕ → Page) (j : ℕ) (es : List Event) (s : State) : Type 0 where
    book : Book
    keeps : Keeps k book s
    same : after (history_of k book) (next_of book) ≡ w
    left : ℕ
    all : left + flushes_in es ≡ j
    tracks : Tracks w s left

  goes-tracks : {s₀ s : State} {es : List Event} → GoesOn k s₀ es s → AllByRecursion (λ e. neither_run_nor_mount e ≡ true) es → (b : Book) → Keeps k b s₀ → (j : ℕ)
      → Tracks (after (history_of k b) (next_of b)) s₀ j → Tracking (after (history_of k b) (next_of b)) j es s
  goes-tracks here no_run b keeps j t = record { book = b; keeps = keeps; same = refl; left = j; all = omega arith; tracks = t }
  goes-tracks (then {es} {e} {s} {s₁} {s'} goes step) no_run b keeps j t =
      let ih = goes-tracks goes no_run.1 b keeps j t in
      let one = step-tracks step no_run.0 ih.book ih.keeps ih.left (subst (λ (w : ℕ → Page). Tracks w s₁ ih.left) (sym ih.same) ih.tracks) in
      record {
        book = fed ih.book e;
        keeps = step_keeps k law wf recovers step ih.book ih.keeps;
        same = fed-same k ih.book e no_run.0 ∙ ih.same;
        left = one.0;
        all = let a = ih.all in let c = one.1 in omega arith;
        tracks = subst (λ (w : ℕ → Page). Tracks w s' one.0) ih.same one.2;
      }

  pub flushed-clean : (v : Volume) (es : List Event) (s : State) (b : Book) → Keeps k b (up v) → v.status ≡ Ok tt → GoesOn k (up v) es s
      → AllByRecursion (λ e. neither_run_nor_mount e ≡ true) es → Tracked (after (history_of k b) (next_of b)) v (flushes_in es) → Clean (history_of k b) (next_of b) s
  flushed-clean v es s b keeps well goes no_run c =
      let t = goes-tracks goes no_run b keeps (flushes_in es) c in
      ends s (subst (Tracks (after (history_of k b) (next_of b)) s) (let a = t.all in let z : t.left ≡ 0 = omega arith in z) t.tracks)
    where
      ends : (s : State) → Tracks (after (history_of k b) (next_of b)) s 0 → Clean (history_of k b) (next_of b) s
      ends (up x) t = let clean = no_groups_clean_lem (dirty_in x) t.places t.finite t.counted in record { none_dirty = clean; all_stored = λ p. t.stored p (clean p) }
      ends (down e) t = record { none_dirty = tt; all_stored = t refl }

-- ---- the groups can be counted

pub groups-counted : (d : Operations) (n : ℕ) → Finite d n → (j : ℕ) × GroupCount d j
groups-counted d n finite = (count f page_count, (f, λ q. (low q, up' q), refl))
  where
    test : ℕ → ℕ → Bool
    test a b = group-test d n (pages_below 64) a b

    decides : (a b : ℕ) → Decides (test a b) (SameGroup d a b)
    decides = group-decides d n (pages_below 64) finite.few (λ m p x y. listed_below 64 p (finite.on_pages m p x y))

    f : ℕ → Bool
    f q = test q q && every 64 (λ x. not (test x q) || leb q x)

    low : (q : ℕ) → f q ≡ true → LowestOfGroup d q
    low q e =
        let two = and_parts (test q q) (every 64 (λ x. not (test x q) || leb q x)) e in
        record {
          is_dirty = reach-from d ((decides q q).0 two.0).0;
          least = λ x s.
              let dx = reach-from d s.0 in
              elim (or_cases (not (test x q)) (leb q x) (every-at 64 (λ x. not (test x q) || leb q x) x two.1 (finite.on_pages dx.0 x dx.1 dx.2))) [
                | inl out ↦ absurd (both_ways (test x q) (not-true (test x q) out) ((decides x q).1 s))
                | inr le ↦ leb-true q x le
              ];
        }

    up' : (q : ℕ) → LowestOfGroup d q → f q ≡ true
    up' q is = and_from (test q q) (every 64 (λ x. not (test x q) || leb q x)) ((decides q q).1 (group-self d q is.is_dirty))
        (every-from 64 (λ x. not (test x q) || leb q x) (λ x l. elim (cases_Bool (test x q)) [
          | inl in' ↦ or_right (not (test x q)) (leb q x) (le-leb q x (is.least x ((decides x q).0 in')))
          | inr out ↦ or_left (not (test x q)) (leb q x) (not_from_false (test x q) out)
        ]))
