-- A flush: the book and the volume keep together, whether or not the install dies.
use Rattle.std.proofs.Common.{◌≡◌, ℕ, zero, suc, ◌<◌, ◌≤◌, Bool, true, false, cond, not, ◌&&◌, eqb, ltb, leb, List, [], ◌∷◌, length, get_or, Some, None, filter, Option, sym, refl, ap, ◌∙◌, subst, inl, inr, arith, MatchOption, Err, Ok}
use Rattle.std.proofs.lemmas.Option.{none-some}
use mathlib.Core.Path.{fun_ext}
use Rattle.std.specs.List.{ContainsAt as Has, AllByRecursion}
use Rattle.std.proofs.lemmas.Bool.{both_ways, cases_lt, and_parts, and_from, or_cases, or_left, not-false, cond-true, cond-false, eqb-true, eqb-false, le-leb, ltb-true, ltb-false}
use Rattle.sets.specs.Sets.{has, lowest}
use Rattle.sets.proofs.SetLaws.{has-none}
use Rattle.faults.specs.declared.fault.Fault.TheVariants.{NoSuchPage, PowerLost, PageClean, GroupBefore}
use Rattle.faults.specs.Faults.{Report, report}
use Rattle.stores.specs.Images.{pictured}
use Rattle.stores.specs.Stores.{Store, Ending, Installed, installed, is_short, end_fault, end_store, block_of}
use Rattle.stores.specs.Stores.Ending.{Passes, FailsOld, FailsNew}
use Rattle.kinds.specs.Kinds.{Meaning}
use Rattle.redo.specs.Histories.{page_count, Page, History, writes, after}
use Rattle.redo.specs.Prefixes.{uninstalled, Installed as Installs}
use Rattle.redo.specs.Recovery.{some}
use Rattle.redo.specs.WriteGraph.{Operations, operations, Dirty, Ready, Finite}
use Rattle.redo.specs.Installation.{IsGroup, joined, stored_with}
use Rattle.redo.specs.Theorems.{AfterInstall, SameGraph, Rest}
use Rattle.redo.proofs.GraphLaws.{groups-part}
use Rattle.redo.proofs.InstallLaws.{uninstalled-parts, on_pages, group-installs}
use Rattle.graph.specs.declared.op.Op.{Op}
use Rattle.graph.specs.Ops.{nothing, dirty_ops}
use Rattle.graph.specs.Listing.{Lists, writes_inside}
use Rattle.graph.proofs.ListLaws.{listed-graph, listed-install, dirty-among}
use Rattle.tables.specs.DirtyOps.{kept as kept_ops, counts, counted, highest_among, numbers}
use Rattle.tables.proofs.ListedLaws.{highest_is}
use Rattle.volume.specs.Working.{in_row, taken}
use Rattle.volume.specs.Statuses.{halted_by, halting, Status}
use Rattle.volume.specs.Volumes.{Volume, Told}
use Rattle.volume.specs.Flushing.{first_waiting, wait_fault, flush_check, with_store, GroupInstalled, FlushedWell, Flushed}
use Rattle.volume.specs.Surviving.{page_of, stored_pages}
use Rattle.lives.specs.Books.{Book, next_of, next_logged, history_of}
use Rattle.lives.specs.Lives.{ends_of}
use Rattle.lives.specs.Lives.State.{up}
use Rattle.lives.proofs.Keeping.{Keeps, Kept, Upheld, Booked}
use Rattle.lives.proofs.FormatLaws.{well-halted, check-none}
use Rattle.lives.proofs.StoreFacts.{install_live}
use Rattle.lives.proofs.ListFacts.{waits-length}
use Rattle.lives.proofs.RowFacts.{in_row_length, pictured-row, image-of_length, image-of_page}

-- what passes a test is kept
kept-passes : (t : Op → Bool) (ops : List Op) (i : ℕ) → i < length ops → t (get_or ops i nothing) ≡ true → filter t ops ≡ [] → ⊥
kept-passes t [] i l e z = omega arith
kept-passes t (o ∷ ops) zero l e z = cons_none o (filter t ops) (sym (cond-true (t o) (o ∷ filter t ops) (filter t ops) e) ∙ z)
  where
    cons_none : (o : Op) (xs : List Op) → o ∷ xs ≡ [] → ⊥
    cons_none o xs h = let q : ◌≡◌ {A = ℕ} 0 1 = cc in omega arith
kept-passes t (o ∷ ops) (suc i) l e z = go (t o) z (kept-passes t ops i (omega arith) e)
  where
    cons_none : (o : Op) (xs : List Op) → o ∷ xs ≡ [] → ⊥
    cons_none o xs h = let q : ◌≡◌ {A = ℕ} 0 1 = cc in omega arith

    go : (b : Bool) → cond b (o ∷ filter t ops) (filter t ops) ≡ [] → (filter t ops ≡ [] → ⊥) → ⊥
    go true z ih = cons_none o (filter t ops) z
    go false z ih = ih z

numbers-none : (ops : List Op) → numbers ops ≡ [] → ops ≡ []
numbers-none [] e = refl
numbers-none (o ∷ ops) e = absurd (let z : ◌≡◌ {A = ℕ} 0 1 = cc in omega arith)

highest_none : (g a : ℕ) (ops : List Op) → highest_among g a ops ≡ None → filter (counts g a) ops ≡ []
highest_none g a ops e =
    numbers-none (filter (counts g a) ops)
    (subst (λ (r : Option ℕ). MatchOption r (counted g a ops ≡ []) (λ m. Has (counted g a ops) m × AllByRecursion (λ n. n ≤ m) (counted g a ops))) e (highest_is (counted g a ops)))

module _ (k : Meaning) (b : Book) (v : Volume) (I : ℕ → Bool) (t : ℕ) (booked : Booked k b) (kept : Kept k b I t (ends_of v)) (upheld : Upheld k b I t v) where
  abbrev h : History
  h = history_of k b

  abbrev n : ℕ
  n = next_of b

  abbrev d : Operations
  d = dirty_ops v.dirty

  abbrev D : Operations
  D = operations h I n

  same_graph : SameGraph d D
  same_graph = listed-graph v.dirty h I n upheld.lists

  -- dirty pages are pages
  pub dirty-within : (p : ℕ) → Dirty d p → p < 64
  dirty-within p x =
      let y = (same_graph.dirty p).0 x in
      on_pages h n booked.ran y.0 p (uninstalled-parts h I n y.0 y.1).1 y.2

  pub listed-finite : Finite d (length v.dirty)
  listed-finite = record {
    few = λ m e. ltb-true m (length v.dirty) e;
    on_pages = λ m p e w. dirty-within p (m, e, w);
  }

  pub first-waiting : first_waiting v ≡ next_logged b
  first-waiting = let w = waits-length _ n v.waiting (next_logged b) upheld.waiting in let e = upheld.next in omega arith

  -- a group that the volume tells, with none before it and no record that waits
  module _ (p group before : ℕ) (told : Told v.dirty p (group, before)) (some-group : group ≡ 0 → ⊥) (none_before : before ≡ 0)
      (none-waits : filter (counts group (first_waiting v)) v.dirty ≡ []) where
    abbrev G : ℕ → Bool
    G = has group

    pub p-dirty : Dirty d p
    p-dirty = go (has group p) refl
      where
        go : (c : Bool) → has group p ≡ c → Dirty d p
        go true e = ((groups-part d).dirty_only p p ((told.group p).0 e)).0
        go false e = absurd (some-group (told.clean (λ x. both_ways (has group p) e ((told.group p).1 ((groups-part d).in_one p x)))).0)

    pub told-group : IsGroup d p G
    told-group q = told.group q

    is-group : IsGroup D p G
    is-group q = (λ e. (same_graph.groups q p).0 ((told.group q).0 e), λ s. (told.group q).1 ((same_graph.groups q p).1 s))

    ready : Ready D p
    ready = record {
      is_dirty = (same_graph.dirty p).0 p-dirty;
      none_before = λ q x. both_ways (has before q) (ap (λ s. has s q) none_before ∙ has-none q) ((told.before q).1 ((same_graph.order q p).1 x));
    }

    abbrev J : ℕ → Bool
    J = joined h I n G

    after-install : AfterInstall h I n (stored_pages v.store) G
    after-install = group-installs h I n (stored_pages v.store) p G booked.ran kept.installed ready is-group

    group-within : (q : ℕ) → has group q ≡ true → q < 64
    group-within q e = dirty-within q ((groups-part d).dirty_only q p ((told.group q).0 e)).0

    -- none of the group's operations waits
    joins-logged : (m : ℕ) → J m ≡ true → m < next_logged b
    joins-logged m e = elim (or_cases (I m) _ e) [
      | inl i ↦ kept.in_log m i
      | inr x ↦ elim (cases_lt m (next_logged b)) [
        | inl low ↦ low
        | inr high ↦
            let two = and_parts (uninstalled h I n m) (some page_count (λ q. writes h m q && G q)) x in
            let a = dirty-among v.dirty h I n upheld.lists m two.0 in
            let num : (get_or v.dirty a.0 nothing).number ≡ m = sym a.2 in
            let into : writes_inside group (get_or v.dirty a.0 nothing) ≡ true =
            ap (λ (f : ℕ → Bool). some page_count (λ q. f q && G q)) (sym (fun_ext a.4)) ∙ two.1 in
            absurd (kept-passes (counts group (first_waiting v)) v.dirty a.0 (ltb-true a.0 (length v.dirty) a.1)
            (and_from (leb (first_waiting v) (get_or v.dirty a.0 nothing).number) (writes_inside group (get_or v.dirty a.0 nothing))
            (le-leb (first_waiting v) (get_or v.dirty a.0 nothing).number (let w = first-waiting in omega arith)) into) none-waits)
      ]
    ]

    -- the stored pages after the install
    pub stored_at : (s : Store) → ((q : ℕ) → s.image q ≡ installed group (in_row v.images) v.store.image q) → (q : ℕ) → stored_pages s q ≡ stored_with h n G (stored_pages v.store) q
    stored_at s e q = go (ltb q 64) refl (has group q) refl
      where
        go : (c : Bool) → ltb q 64 ≡ c → (x : Bool) → has group q ≡ x → page_of (cond c (s.image q) []) ≡ cond x (after h n q) (page_of (cond c (v.store.image q) []))
        go true l true g =
            let in' = ltb-true q 64 l in
            ap page_of (e q ∙ cond-true (has group q) (pictured (in_row v.images) q) (v.store.image q) g ∙ pictured-row v.images q upheld.whole in')
            ∙ image-of_page (v.images q) (upheld.whole q in') ∙ upheld.working q
        go true l false g = ap page_of (e q ∙ cond-false (has group q) (pictured (in_row v.images) q) (v.store.image q) g)
        go false l true g = absurd (omega (arith, group-within q g, ltb-false q 64 l))
        go false l false g = refl

    sized-at : (s : Store) → ((q : ℕ) → s.image q ≡ installed group (in_row v.images) v.store.image q) → (q : ℕ) → q < 64 → length (s.image q) ≡ 256
    sized-at s e q l = ap length (e q) ∙ go (has group q)
      where
        go : (x : Bool) → length (cond x (pictured (in_row v.images) q) (v.store.image q)) ≡ 256
        go true = ap length (pictured-row v.images q upheld.whole l) ∙ image-of_length (v.images q) (upheld.whole q l)
        go false = kept.sized q l

    -- new: the group is installed
    kept_new : (s : Store) (plan : ℕ → List ℕ) → is_short s.state ≡ false → ((q : ℕ) → s.image q ≡ installed group (in_row v.images) v.store.image q)
        → Kept k b J t (record { log = v.log; store = s; plan = plan })
    kept_new s plan not_short e = record {
      installed = subst (λ (w : ℕ → Page). Installs h J n w) (sym (fun_ext (stored_at s e))) after-install.installed;
      in_log = joins-logged;
      from_first = kept.from_first;
      to-logged = kept.to-logged;
      room = kept.room;
      dropped = λ m a c. or_left (I m) _ (kept.dropped m a c);
      log = kept.log;
      not_short = not_short;
      sized = sized-at s e;
    }

    -- old: nothing is
    kept-old : (s : Store) (plan : ℕ → List ℕ) → is_short s.state ≡ false → s.image ≡ v.store.image → Kept k b I t (record { log = v.log; store = s; plan = plan })
    kept-old s plan not_short e = record {
      installed = subst (λ (f : ℕ → List ℕ). Installs h I n (λ q. page_of (taken f q))) (sym e) kept.installed;
      in_log = kept.in_log;
      from_first = kept.from_first;
      to-logged = kept.to-logged;
      room = kept.room;
      dropped = kept.dropped;
      log = kept.log;
      not_short = not_short;
      sized = λ q l. ap (λ (f : ℕ → List ℕ). length (f q)) e ∙ kept.sized q l;
    }

    new-lists : Lists (kept_ops group v.dirty) h J n
    new-lists = listed-install v.dirty h I n group upheld.lists

    new-graph : SameGraph (dirty_ops (kept_ops group v.dirty)) (operations h J n)
    new-graph = listed-graph (kept_ops group v.dirty) h J n new-lists

    -- the other groups and their order stay
    pub rest-lists : Rest d (dirty_ops (kept_ops group v.dirty)) G
    rest-lists = record {
      dirty = λ q. (
        λ x. let y = (after-install.rest.dirty q).0 ((new-graph.dirty q).0 x) in ((same_graph.dirty q).1 y.0, y.1),
        λ y. (new-graph.dirty q).1 ((after-install.rest.dirty q).1 ((same_graph.dirty q).0 y.0, y.1)),
      );
      groups = λ a c. (
        λ x. let y = (after-install.rest.groups a c).0 ((new-graph.groups a c).0 x) in ((same_graph.groups a c).1 y.0, y.1),
        λ y. (new-graph.groups a c).1 ((after-install.rest.groups a c).1 ((same_graph.groups a c).0 y.0, y.1)),
      );
      order = λ a c. (
        λ x. let y = (after-install.rest.order a c).0 ((new-graph.order a c).0 x) in ((same_graph.order a c).1 y.0, y.1),
        λ y. (new-graph.order a c).1 ((after-install.rest.order a c).1 ((same_graph.order a c).0 y.0, y.1)),
      );
    }

    module _ (well : v.status ≡ Ok tt) where
      halts : (plan : ℕ → List ℕ) (s : Store) (x : ℕ) → (with_store s plan group (Some (report (PowerLost x))) v).status ≡ Ok tt → ⊥
      halts plan s x z = well-halted (PowerLost x) (sym z ∙ ap (λ (q : Status). halting q (Some (report (PowerLost x)))) well)

      ended : (plan : ℕ → List ℕ) (e : Ending) → Keeps k b (up (with_store (end_store e group (in_row v.images) v.store) plan group (end_fault e (v.plan group)) v))
      ended plan Passes = record {
        booked = booked;
        I = J;
        t = t;
        kept = kept_new (end_store Passes group (in_row v.images) v.store) plan refl (λ q. refl);
        upheld = λ _. record {
          log-live = upheld.log-live;
          store-live = refl;
          working = upheld.working;
          whole = upheld.whole;
          lists = new-lists;
          waiting = upheld.waiting;
          few = upheld.few;
          first = upheld.first;
          next = upheld.next;
          room = upheld.room;
        };
      }
      ended plan (FailsOld i) = record {
        booked = booked;
        I = I;
        t = t;
        kept = kept-old (end_store (FailsOld i) group (in_row v.images) v.store) plan refl refl;
        upheld = λ z. absurd (halts plan (end_store (FailsOld i) group (in_row v.images) v.store) (block_of (v.plan group) i) z);
      }
      ended plan (FailsNew i) = record {
        booked = booked;
        I = J;
        t = t;
        kept = kept_new (end_store (FailsNew i) group (in_row v.images) v.store) plan refl (λ q. refl);
        upheld = λ z. absurd (halts plan (end_store (FailsNew i) group (in_row v.images) v.store) (block_of (v.plan group) i) z);
      }

      -- what the install answers, and what it leaves
      pub install_is : (o : Option Report) (s : Store) (x : Installed v.store (v.plan group) group (in_row v.images) o s)
          → (o ≡ end_fault x.0 (v.plan group)) × (s ≡ end_store x.0 group (in_row v.images) v.store)
      install_is o s x = install_live v.store s (v.plan group) group (in_row v.images) o upheld.store-live (in_row_length v.images upheld.whole) some-group x

      installed-keeps : (o : Option Report) (v' : Volume) → GroupInstalled v group o v' → Keeps k b (up v')
      installed-keeps o v' c =
          let two = install_is o c.store c.installed in
          subst (λ (x : Volume). Keeps k b (up x)) (sym c.after)
          (subst (λ (x : Option Report). Keeps k b (up (with_store c.store c.plan group x v))) (sym two.0)
          (subst (λ (x : Store). Keeps k b (up (with_store x c.plan group (end_fault c.installed.0 (v.plan group)) v))) (sym two.1) (ended c.plan c.installed.0)))

-- ---- the checks

wait_none : (x : Option ℕ) → wait_fault x ≡ None → x ≡ None
wait_none None e = refl
wait_none (Some m) e = absurd (none-some _ (sym e))

pub record Unhindered (v : Volume) (group before : ℕ) : Type 0 where
  pub some-group : group ≡ 0 → ⊥
  pub none_before : before ≡ 0
  pub none-waits : filter (counts group (first_waiting v)) v.dirty ≡ []

pub unhindered : (v : Volume) (p group before : ℕ) → flush_check v p group before ≡ None → Unhindered v group before
unhindered v p group before e =
    let one = check-none (eqb group 0) (report (PageClean p)) _ e in
    let two = check-none (not (eqb before 0)) (report (GroupBefore (lowest before))) _ one.1 in
    record {
      some-group = eqb-false group 0 one.0;
      none_before = eqb-true before 0 (not-false (eqb before 0) two.0);
      none-waits = highest_none group (first_waiting v) v.dirty (wait_none (highest_among group (first_waiting v) v.dirty) two.1);
    }

pub flush-keeps_all : (k : Meaning) (b : Book) (v v' : Volume) (p group : ℕ) (o : Option Report) → Flushed v p group o v' → Keeps k b (up v) → Keeps k b (up v')
flush-keeps_all k b v v' p group o c keeps = go v.status refl c
  where
    same : v' ≡ v → Keeps k b (up v')
    same e = subst (λ (x : Volume). Keeps k b (up x)) (sym e) keeps

    checks : v.status ≡ Ok tt → (before : ℕ) → Told v.dirty p (group, before) → (x : Option Report) → flush_check v p group before ≡ x
        → MatchOption x (GroupInstalled v group o v') (λ r. (o ≡ Some r) × (v' ≡ v)) → Keeps k b (up v')
    checks well before told None ok c =
        let u = unhindered v p group before ok in
        installed-keeps k b v keeps.I keeps.t keeps.booked keeps.kept (keeps.upheld well) p group before told u.some-group u.none_before u.none-waits well o v' c
    checks well before told (Some r) ok c = same c.1

    pages : v.status ≡ Ok tt → (x : Bool) → cond x ((o ≡ Some (report (NoSuchPage p))) × (v' ≡ v)) (FlushedWell v p group o v') → Keeps k b (up v')
    pages well true c = same c.1
    pages well false c = checks well c.before c.told (flush_check v p group c.before) refl c.call

    go : (h : Status) → v.status ≡ h
        → MatchOption (halted_by h) (cond (leb 64 p) ((o ≡ Some (report (NoSuchPage p))) × (v' ≡ v)) (FlushedWell v p group o v')) (λ r. (o ≡ Some r) × (v' ≡ v)) → Keeps k b (up v')
    go (Ok u) well c = pages well (leb 64 p) c
    go (Err f) halted c = same c.1
