-- A mount recovers.
use Rattle.std.proofs.Common.{◌≡◌, ℕ, zero, suc, ◌+◌, ◌-◌, ◌<◌, ◌≤◌, Bool, true, false, cond, not, ◌&&◌, eqb, ltb, leb, List, [], ◌∷◌, ◌++◌, Some, None, Ok, Option, sym, refl, ap, ◌∙◌, subst, ap₂, arith}
use Rattle.std.specs.List.{flat_map, AllByRecursion}
use Rattle.std.proofs.ByRecursion.{All-weaker}
use Rattle.std.proofs.lemmas.Bool.{and_left, lt-leb, cond-false}
use Rattle.sets.specs.Sets.{has, count, rising, pages}
use Rattle.sets.proofs.SetLaws.{rising-all, has_within}
use Rattle.faults.specs.declared.fault.Fault.TheVariants.{TooShort, NumberAhead}
use Rattle.faults.specs.Faults.{Report, report}
use Rattle.media.specs.Media.{Device, block_at, check}
use Rattle.kinds.specs.Kinds.{Meaning, Lawful}
use Rattle.logblocks.specs.Blocks.{header_in}
use Rattle.redo.specs.Histories.{Page, History, run, WellFormed, Ran}
use Rattle.redo.specs.Prefixes.{uninstalled, Recoverable}
use Rattle.redo.specs.Recovery.{missing, redo}
use Rattle.redo.proofs.HistoryLaws.{run-unwritten, image-below}
use Rattle.redo.proofs.RecoveryLaws.{redo-recovers}
use Rattle.volume.specs.Working.{number_of, taken}
use Rattle.volume.specs.LogReading.{last_number, bears, end_of, record_block, record_fault}
use Rattle.volume.specs.Volumes.{Ends, Volume, or_else}
use Rattle.volume.specs.Formatting.{too_short}
use Rattle.volume.specs.Mounting.{first_fault, entry_at, Redone, and_then, record_redone, records_redone, records_fault, ahead_fault, unless_fault, recovered_from, mounted_well, mounted_halted, mounted_by, mounted_at, mounted}
use Rattle.volume.specs.Surviving.{page_of, stored_pages, shares, operation_by, operation_of, LogHolds, Shown, MountRecovers}
use Rattle.volume.proofs.RedoLaws.{Come, Comes, does_record}

-- ---- the checks ahead of redo

-- where no check fails there is no fault
none_first : (f : ℕ → Option Report) (n : ℕ) → ((i : ℕ) → i < n → f i ≡ None) → first_fault f n ≡ None
unfolding first_fault
none_first f zero all = refl
none_first f (suc n) all = ap₂ or_else (none_first f n (λ i l. all i (omega arith))) (all n (omega arith))

-- a log does not end ahead of its first number
end_from : (m : Device) (n k : ℕ) → n ≤ end_of m n k
unfolding end_of
end_from m n zero = omega arith
end_from m n (suc k) = go (not (eqb n last_number) && bears m n) (end_from m (n + 1) k)
  where
    go : (b : Bool) → n + 1 ≤ end_of m (n + 1) k → n ≤ cond b (end_of m (n + 1) k) n
    go true ih = omega arith
    go false ih = omega arith

-- ---- numbers below the first

-- they are no operations: redo of them changes nothing, and none is listed
redo-below : (h : History) (w : ℕ → Page) (m p : ℕ) → m ≤ h.first → redo h m w p ≡ w p
unfolding redo
redo-below h w zero p l = refl
redo-below h w (suc m) p l = go (missing h m (redo h m w)) ∙ redo-below h w m p (omega arith)
  where
    go : (b : Bool) → cond b (run h m (redo h m w)) (redo h m w) p ≡ redo h m w p
    go true = run-unwritten h m p (redo h m w) (and_left (leb h.first m) ((h.operation m).writes p) (lt-leb h.first m l))
    go false = refl

rising-below : (f : ℕ → Bool) (m : ℕ) → ((j : ℕ) → j < m → f j ≡ false) → rising f m ≡ []
unfolding rising
rising-below f zero none = refl
rising-below f (suc m) none =
    ap₂ (λ (xs : List ℕ) (b : Bool). xs ++ cond b (m ∷ []) []) (rising-below f m (λ j l. none j (omega arith))) (none m (omega arith))

-- ---- redo of all records

module _ (k : Meaning) (law : Lawful k) (d : Device) (h : History) (I : ℕ → Bool) (n : ℕ) (images : ℕ → List ℕ) (holds : LogHolds k d h n) (ran : Ran h n)
    (rec : Recoverable h I n (λ p. page_of (images p))) where
  abbrev stored : ℕ → Page
  stored p = page_of (images p)

  abbrev start : Redone
  start = record { images = images; ops = [] }

  first_to : h.first ≤ n
  first_to = omega (arith, end_from d h.first 128, holds.ends)

  begins : Come h I n stored (h.first + 0) start
  begins = record {
    held = λ p. sym (redo-below h stored (h.first + 0) p (omega arith));
    numbers = sym (rising-below (uninstalled h I n) (h.first + 0) (λ j l. and_left (leb h.first j) (ltb j n && not (I j)) (lt-leb h.first j (omega arith))));
    scopes = tt;
  }

  comes : (i : ℕ) → h.first + i ≤ n → Comes h I n stored (h.first + i) (records_redone k d h.first i start)
  unfolding records_redone
  comes zero l = (start, refl, begins)
  comes (suc i) l =
      let e : suc (h.first + i) ≡ h.first + suc i = omega arith in
      let so_far = comes i (omega arith) in
      let more = does_record k law d h I n stored holds ran rec (h.first + i) (omega arith) (omega arith) so_far.0 so_far.2 in
      (more.0, ap (λ x. and_then x (record_redone k (h.first + i) (entry_at d (h.first + i)))) so_far.1 ∙ more.1, subst (λ (m : ℕ). Come h I n stored m more.0) e more.2)

  -- the checks pass
  no_record : records_fault k d h.first (n - h.first) ≡ None
  no_record =
      none_first (λ i. record_fault k (h.first + i) (record_block d (h.first + i))) (n - h.first)
      (λ i l. holds.faultless (h.first + i) (omega arith) (omega arith))

  number-below : (p : ℕ) → number_of (images p) < n
  number-below p = let b = image-below h n ran I n n p (omega arith) first_to (λ j a c _. absurd (omega arith)) in omega (arith, rec.numbered p)

  none_ahead : ahead_fault images n ≡ None
  none_ahead =
      none_first (λ p. check (leb n (number_of (images p))) (report (NumberAhead p)) None) 64
      (λ p l. ap (λ b. check b (report (NumberAhead p)) None) (lt-leb n (number_of (images p)) (number-below p)))

  -- so redo comes to the end
  pub recovered : Comes h I n stored n (recovered_from k d images h.first)
  recovered =
      let e : h.first + (n - h.first) ≡ n = let f = first_to in omega arith in
      let all = comes (n - h.first) (omega arith) in (
        all.0,
        ap (λ j. unless_fault (or_else (records_fault k d h.first (j - h.first)) (ahead_fault images j)) (records_redone k d h.first (j - h.first) start)) holds.ends
            ∙ ap₂ (λ x y. unless_fault (or_else x y) (records_redone k d h.first (n - h.first) start)) no_record none_ahead
            ∙ all.1,
        subst (λ (m : ℕ). Come h I n stored m all.0) e all.2,
      )

-- the mount of such a log gives what redo came to
mounted-is : (k : Meaning) (e : Ends) (f n : ℕ) (s : Redone) → too_short e.log e.store ≡ false → header_in (block_at e.log 0) ≡ Some f
    → end_of e.log f 128 ≡ n → recovered_from k e.log (taken e.store.image) f ≡ Ok s → mounted k e ≡ mounted_well e f n s
mounted-is k e f n s long header ends all =
    cond-false (too_short e.log e.store) (mounted_halted e (report TooShort)) (mounted_at k e (header_in (block_at e.log 0))) long
    ∙ ap (mounted_at k e) header
    ∙ ap₂ (mounted_by e f) ends all

pub mount-recovers : (k : Meaning) → Lawful k → (e : Ends) → MountRecovers k e
mount-recovers k law e h I n long holds ran rec =
    let all = recovered k law e.log h I n (taken e.store.image) holds ran rec in
    let s = all.0 in
    let come = all.2 in
    let told = redo-recovers h I n (stored_pages e.store) ran rec in
    let shown : Shown h I n (mounted_well e h.first n s) = record {
      well = refl;
      first = refl;
      next = refl;
      working = λ p. come.held p ∙ told.all_pages p;
      redone = record { numbers = come.numbers; scopes = come.scopes };
    } in
    subst (λ (v : Volume). Shown h I n v) (sym (mounted-is k e h.first n s long holds.header holds.ends all.1)) shown

-- ---- what a kind's operations are owed

-- contents that are the same on a list of pages are the same in a row
joined_same : (s t : ℕ → List ℕ) (ps : List ℕ) → AllByRecursion (λ p. s p ≡ t p) ps → flat_map s ps ≡ flat_map t ps
joined_same s t [] all = refl
joined_same s t (p ∷ ps) all = ap₂ ◌++◌ all.0 (joined_same s t ps all.1)

-- where there are some, there is one
count-some : (f : ℕ → Bool) (n : ℕ) → 1 ≤ count f n → (p : ℕ) × (f p ≡ true)
unfolding count
count-some f zero l = absurd (omega arith)
count-some f (suc n) l = go (f n) refl (count-some f n) l
  where
    go : (b : Bool) → f n ≡ b → (1 ≤ count f n → (p : ℕ) × (f p ≡ true)) → 1 ≤ count f n + cond b 1 0 → (p : ℕ) × (f p ≡ true)
    go true e ih some = (n, e)
    go false e ih some = ih (omega arith)

-- an accepted body is an operation whose effect goes by the pages read, and which writes some of the 64 pages
pub operation-well_formed : (k : Meaning) → Lawful k → (body : List ℕ) (r w : ℕ) → k.scope body ≡ Ok (r, w) → WellFormed (operation_of k body)
operation-well_formed k law body r w scoped = subst WellFormed (sym (ap (operation_by k body) scoped)) formed
  where
    formed : WellFormed (operation_by k body (Ok (r, w)))
    formed = record {
      goes_by_reads = λ s t same. ap (λ (old : List ℕ). shares w (k.effect body old))
          (joined_same s t (pages r) (All-weaker (λ p. (p < 64) × (has r p ≡ true)) (λ p. s p ≡ t p) (λ p h. same p h.1) (pages r) (rising-all (has r) 64)));
      writes_some = count-some (has w) 64 (law.scoped body r w scoped).writes_some;
      on_pages = λ p e. has_within w p (law.scoped body r w scoped).writes_pages e;
    }
