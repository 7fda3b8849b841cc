-- A quiet volume can be made clean: a flush of a ready group passes unless the power fails, and each leaves one group fewer.
use Rattle.std.proofs.Common.{◌≡◌, ℕ, zero, suc, ◌^◌, ◌<◌, Bool, false, cond, leb, List, [], ◌∷◌, get_or, Some, None, fold, filter, Option, sym, refl, ap, ◌∙◌, subst, inl, inr, pow-suc, arith, MatchOption, Ok}
use Rattle.std.specs.List.{AllByRecursion}
use Rattle.std.proofs.ByRecursion.{All-from_get_or}
use Rattle.std.proofs.lemmas.Bool.{both_ways, cases_Bool, and_left, cond-false, lt-leb, eq-eqb, ne_eqb}
use Rattle.sets.specs.Sets.{has}
use Rattle.sets.proofs.SetLaws.{has-none, set-only}
use Rattle.faults.specs.declared.fault.Fault.TheVariants.{NoSuchPage}
use Rattle.faults.specs.Faults.{Report, report}
use Rattle.stores.specs.Stores.{Ending, end_fault}
use Rattle.stores.specs.Stores.Ending.{Passes, FailsOld, FailsNew}
use Rattle.kinds.specs.Kinds.{Meaning}
use Rattle.redo.specs.WriteGraph.{Ready}
use Rattle.redo.proofs.GraphLaws.{groups-part}
use Rattle.redo.proofs.InstallLaws.{uninstalled-parts}
use Rattle.graph.specs.declared.op.Op.{Op}
use Rattle.graph.specs.Ops.{nothing}
use Rattle.graph.specs.Listing.{writes_inside}
use Rattle.graph.proofs.ListLaws.{listed-dirty}
use Rattle.tables.specs.DirtyOps.{counts, higher, highest_among, numbers}
use Rattle.volume.specs.Statuses.{halted_by, Status}
use Rattle.volume.specs.Volumes.{Volume, Told}
use Rattle.volume.specs.Flushing.{first_waiting, flush_check, GroupInstalled, FlushedWell, Flushed}
use Rattle.lives.specs.Books.{Book, next_of, next_logged, history_of}
use Rattle.lives.specs.Lives.{ends_of}
use Rattle.lives.specs.Laws.{dirty_in, PassedOrLost}
use Rattle.lives.proofs.Keeping.{Kept, Upheld, Booked}
use Rattle.lives.proofs.FlushFacts.{dirty-within, first-waiting, install_is, unhindered}

-- ---- sets with no page

lt_pow : (n : ℕ) → n < 2 ^ n
lt_pow zero = omega arith
lt_pow (suc n) = let l = lt_pow n in let e = pow-suc 2 n in omega arith

pub no_page : (s : ℕ) → ((p : ℕ) → has s p ≡ false) → s ≡ 0
no_page s none = set-only s s 0 (lt_pow s) (let l = lt_pow s in omega arith) (λ p. none p ∙ sym (has-none p))

kept-none : (t : Op → Bool) (ops : List Op) → AllByRecursion (λ o. t o ≡ false) ops → filter t ops ≡ []
kept-none t [] all = refl
kept-none t (o ∷ ops) all = cond-false (t o) (o ∷ filter t ops) (filter t ops) all.0 ∙ kept-none t ops all.1

-- where no operation counts, there is no highest
highest_of_none : (g a : ℕ) (ops : List Op) → filter (counts g a) ops ≡ [] → highest_among g a ops ≡ None
highest_of_none g a ops e = ap (λ (xs : List Op). fold higher None (numbers xs)) e

module _ (k : Meaning) (b : Book) (v : Volume) (I : ℕ → Bool) (t : ℕ) (booked : Booked k b) (kept : Kept k b I t (ends_of v)) (upheld : Upheld k b I t v)
    (well : v.status ≡ Ok tt) (logged : next_logged b ≡ next_of b) where
  none-counts : (g : ℕ) → filter (counts g (first_waiting v)) v.dirty ≡ []
  none-counts g = kept-none (counts g (first_waiting v)) v.dirty (All-from_get_or (λ o. counts g (first_waiting v) o ≡ false) v.dirty nothing (λ i l.
      let m = (get_or v.dirty i nothing).number in
      let low = (uninstalled-parts (history_of k b) I (next_of b) m (listed-dirty v.dirty (history_of k b) I (next_of b) upheld.lists i l)).1 in
      let w = first-waiting k b v I t booked kept upheld in
      and_left (leb (first_waiting v) m) (writes_inside g (get_or v.dirty i nothing)) (lt-leb (first_waiting v) m (omega arith))))

  check-passes : (p group before : ℕ) → Ready (dirty_in v) p → Told v.dirty p (group, before) → flush_check v p group before ≡ None
  check-passes p group before ready told = rw (ne_eqb group 0 some-group, eq-eqb before 0 none_before, highest_of_none group (first_waiting v) v.dirty (none-counts group)) refl
    where
      some-group : group ≡ 0 → ⊥
      some-group e = both_ways (has group p) (ap (λ s. has s p) e ∙ has-none p) ((told.group p).1 ((groups-part (dirty_in v)).in_one p ready.is_dirty))

      none_before : before ≡ 0
      none_before = no_page before (λ q. elim (cases_Bool (has before q)) [ inl x ↦ absurd (ready.none_before q ((told.before q).0 x)) | inr x ↦ x ])

  ends-well : (plan : List ℕ) (e : Ending) → PassedOrLost (end_fault e plan)
  ends-well plan Passes = tt
  ends-well plan (FailsOld i) = refl
  ends-well plan (FailsNew i) = refl

  pub ready-passes : (p group : ℕ) (o : Option Report) (v' : Volume) → Ready (dirty_in v) p → Flushed v p group o v' → PassedOrLost o
  ready-passes p group o v' ready c =
      let one : cond (leb 64 p) ((o ≡ Some (report (NoSuchPage p))) × (v' ≡ v)) (FlushedWell v p group o v') =
      subst (λ (s : Status). MatchOption (halted_by s) (cond (leb 64 p) ((o ≡ Some (report (NoSuchPage p))) × (v' ≡ v)) (FlushedWell v p group o v')) (λ r. (o ≡ Some r) × (v' ≡ v))) well c in
      let in' = dirty-within k b v I t booked kept upheld p ready.is_dirty in
      let two : FlushedWell v p group o v' =
      subst (λ (x : Bool). cond x ((o ≡ Some (report (NoSuchPage p))) × (v' ≡ v)) (FlushedWell v p group o v')) (lt-leb 64 p in') one in
      let ok = check-passes p group two.before ready two.told in
      let three : GroupInstalled v group o v' =
      subst (λ (x : Option Report). MatchOption x (GroupInstalled v group o v') (λ r. (o ≡ Some r) × (v' ≡ v))) ok two.call in
      let u = unhindered v p group two.before ok in
      let is = install_is k b v I t booked kept upheld p group two.before two.told u.some-group u.none_before u.none-waits well o three.store three.installed in
      subst PassedOrLost (sym is.0) (ends-well (v.plan group) three.installed.0)
