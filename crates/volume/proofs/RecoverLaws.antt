-- The steps of a mount: the first of several faults, pages taken one by one.
use Rattle.std.proofs.Common.{◌≡◌, ℕ, zero, suc, ◌+◌, ◌-◌, ◌<◌, ◌≤◌, Bool, true, false, cond, not, ◌&&◌, eqb, ltb, leb, List, [], ◌∷◌, ◌++◌, length, Some, None, Ok, Err, Option, Result, sym, refl, ap, ◌∙◌, ap₂, inl, inr, arith}
use Rattle.std.proofs.lemmas.List.{length-append}
use Rattle.std.proofs.lemmas.Bool.{cases_lt, cases_eq, eq-eqb, ne_eqb, lt-ltb, le-ltb, cond-true, cond-false, cond_both}
use Rattle.faults.specs.declared.fault.Fault.TheVariants.{NumberAhead, PartlyInstalled}
use Rattle.faults.specs.Faults.{Report, report}
use Rattle.media.specs.Media.{Device, check}
use Rattle.kinds.specs.Kinds.{Meaning}
use Rattle.logblocks.specs.Blocks.{Entry, entry_of, is_record_block, record_in}
use Rattle.graph.specs.declared.op.Op.{Op}
use Rattle.redo.specs.Recovery.{every}
use Rattle.std.specs.List.{range_with_len, list_all, find}
use Rattle.std.specs.Option.{option_map, option_or}
use Rattle.std.proofs.lemmas.List.Folds.{list_all-append, find-append}
use Rattle.volume.specs.Working.{image_at, number_of, taken, replaced, written}
use Rattle.volume.specs.LogReading.{last_number, bears, end_of, record_block, record_fault}
use Rattle.volume.specs.Volumes.{Ends, Volume, or_else}
use Rattle.volume.specs.Performing.{outcome}
use Rattle.volume.specs.Mounting.{first_fault, is_installed, is_missing, entry_at, Redone, redone_by, redo_uninstalled, record_redone, and_then, records_redone, records_fault, ahead_fault, unless_fault, recovered_from, mounted_halted, mounted_by}
use Rattle.volume.proofs.WorkingLaws.{image-none}

-- ---- the first fault

module _ (f : ℕ → Option Report) where
  pub no_fault_yet : None ≡ first_fault f 0
  unfolding first_fault
  no_fault_yet = refl

  step : (n j : ℕ) → j ≡ n + 1 → first_fault f j ≡ or_else (first_fault f n) (f n)
  unfolding first_fault
  step n j e = let s : j ≡ suc n = omega arith in ap (first_fault f) s

  -- one check more passes
  pub fault-none : (n : ℕ) → None ≡ first_fault f n → None ≡ f n → None ≡ first_fault f (n + 1)
  fault-none n h e = e ∙ sym (step n (n + 1) refl ∙ ap (λ o. or_else o (f n)) (sym h))

  -- the first fault stays the first
  fault-stays : (n k : ℕ) (r : Report) → Some r ≡ first_fault f n → Some r ≡ first_fault f (n + k)
  fault-stays n zero r h = let z : n + 0 ≡ n = omega arith in rw z h
  fault-stays n (suc k) r h = sym (step (n + k) (n + suc k) (omega arith) ∙ ap (λ o. or_else o (f (n + k))) (sym (fault-stays n k r h)))

  pub fault-here : (n k : ℕ) (r : Report) → n < k → None ≡ first_fault f n → Some r ≡ f n → Some r ≡ first_fault f k
  fault-here n k r l h e =
      let one : Some r ≡ first_fault f (n + 1) = e ∙ sym (step n (n + 1) refl ∙ ap (λ o. or_else o (f n)) (sym h)) in
      let all : n + 1 + (k - (n + 1)) ≡ k = omega arith in
      fault-stays (n + 1) (k - (n + 1)) r one ∙ ap (first_fault f) all

-- a page's number is at or above the next number, or below it
module _ (images : ℕ → List ℕ) (next : ℕ) where
  abbrev pub ahead : ℕ → Option Report
  ahead p = check (leb next (number_of (images p))) (report (NumberAhead p)) None

-- ---- the stored images, page by page

module _ (images : ℕ → List ℕ) where
  -- the images of the pages below k, and the others as they are
  abbrev pub taken_to : ℕ → (ℕ → List ℕ) → ℕ → List ℕ
  taken_to k cur q = cond (ltb q k) (images q) (cur q)

  pub taken_more : (k : ℕ) (cur next : ℕ → List ℕ) → ((q : ℕ) → cur q ≡ taken_to k cur q) → ((q : ℕ) → next q ≡ replaced k (images k) cur q)
      → (q : ℕ) → next q ≡ taken_to (k + 1) next q
  taken_more k cur next h e q = elim (cases_lt q (k + 1)) [
    | inl l ↦ elim (cases_eq q k) [
      | inl same ↦ e q ∙ cond-true (eqb q k) (images k) (cur q) (eq-eqb q k same) ∙ ap images (sym same)
      | inr other ↦ e q ∙ cond-false (eqb q k) (images k) (cur q) (ne_eqb q k other) ∙ h q ∙ cond-true (ltb q k) (images q) (cur q) (lt-ltb q k (omega arith))
    ] ∙ sym (cond-true (ltb q (k + 1)) (images q) (next q) (lt-ltb q (k + 1) l))
    | inr over ↦ sym (cond-false (ltb q (k + 1)) (images q) (next q) (le-ltb q (k + 1) over))
  ]

  pub taken-all : (bytes : List ℕ) → length bytes ≡ 16384 → ((q : ℕ) → image_at bytes q ≡ taken_to 64 (image_at bytes) q) → (q : ℕ) → image_at bytes q ≡ taken images q
  taken-all bytes long h q = elim (cases_lt q 64) [
    | inl l ↦ h q ∙ cond-true (ltb q 64) (images q) (image_at bytes q) (lt-ltb q 64 l) ∙ sym (cond-true (ltb q 64) (images q) [] (lt-ltb q 64 l))
    | inr over ↦ image-none bytes q long over ∙ sym (cond-false (ltb q 64) (images q) [] (le-ltb q 64 over))
  ]

-- ---- a test of every page

range-more : (a n : ℕ) → range_with_len a (suc n) ≡ range_with_len a n ++ (a + n) ∷ []
range-more a zero = let e : a ≡ a + 0 = omega arith in ap (λ x. x ∷ []) e
range-more a (suc n) =
    let e : a + 1 + n ≡ a + suc n = omega arith in
    ap (λ xs. a ∷ xs) (range-more (a + 1) n ∙ ap (λ x. range_with_len (a + 1) n ++ x ∷ []) e)

-- a test of the numbers below n, tried one after another
pub every-listed : (f : ℕ → Bool) (n : ℕ) → list_all f (range_with_len 0 n) ≡ every n f
unfolding every
every-listed f zero = refl
every-listed f (suc n) =
    let e : 0 + n ≡ n = omega arith in
    ap (list_all f) (range-more 0 n) ∙ list_all-append f (range_with_len 0 n) ((0 + n) ∷ [])
    ∙ ap₂ (λ x k. x && (f k && true)) (every-listed f n) e ∙ turned (every n f) (f n)
  where
    turned : (x y : Bool) → (x && (y && true)) ≡ (y && x)
    turned true true = refl
    turned true false = refl
    turned false true = refl
    turned false false = refl

-- the fault of the first of the numbers below n that a test finds
pub first-found : (test : ℕ → Bool) (fault : ℕ → Report) (n : ℕ)
    → option_map fault (find test (range_with_len 0 n)) ≡ first_fault (λ p. check (test p) (fault p) None) n
unfolding first_fault
first-found test fault zero = refl
first-found test fault (suc n) =
    let e : 0 + n ≡ n = omega arith in
    ap (λ xs. option_map fault (find test xs)) (range-more 0 n) ∙ ap (option_map fault) (find-append test (range_with_len 0 n) ((0 + n) ∷ []))
    ∙ ap (λ k. option_map fault (option_or (find test (range_with_len 0 n)) (find test (k ∷ [])))) e
    ∙ go (find test (range_with_len 0 n)) (test n)
    ∙ ap (λ o. or_else o (check (test n) (fault n) None)) (first-found test fault n)
  where
    go : (o : Option ℕ) (b : Bool) → option_map fault (option_or o (cond b (Some n) None)) ≡ or_else (option_map fault o) (cond b (Some (fault n)) None)
    go (Some x) b = refl
    go None true = refl
    go None false = refl

-- ---- one record

pub entry_read : (e : Entry) (block : List ℕ) → Some e ≡ record_in block → e ≡ entry_of block
entry_read e block h = go (is_record_block block) h
  where
    go : (b : Bool) → Some e ≡ cond b (Some (entry_of block)) None → e ≡ entry_of block
    go true h = cc
    go false h = absurd (let z : ◌≡◌ {A = ℕ} 0 1 = cc in omega arith)

pub not-installed : (k : Meaning) (n : ℕ) (e : Entry) (s : Redone) → is_installed e n s.images ≡ false → redo_uninstalled k n e s ≡ record_redone k n e s
not-installed k n e s h = sym (cond-false (is_installed e n s.images) (Ok s) (redo_uninstalled k n e s) h)

-- what becomes of a record says nothing of the number that its block bears
pub redone-numbered : (n : ℕ) (e : Entry) (x : Result (List ℕ) ℕ) (s : Redone)
    → redone_by n (record { number = n; reads = e.reads; writes = e.writes; body = e.body }) x s ≡ redone_by n e x s
redone-numbered n e (Ok new) s = refl
redone-numbered n e (Err c) s = refl

-- one that is not installed: missing or neither
module _ (k : Meaning) (n : ℕ) (e : Entry) (s : Redone) (out : is_installed e n s.images ≡ false) where
  abbrev again : Result Redone Report
  again = redone_by n e (outcome k e.body e.reads s.images) s

  pub redone-missing : is_missing e n s.images ≡ true → again ≡ record_redone k n e s
  redone-missing h = sym (cond-true (is_missing e n s.images) again (Err (report (PartlyInstalled n))) h) ∙ not-installed k n e s out

  pub refused-neither : is_missing e n s.images ≡ false → Err (report (PartlyInstalled n)) ≡ record_redone k n e s
  refused-neither h = sym (cond-false (is_missing e n s.images) again (Err (report (PartlyInstalled n))) h) ∙ not-installed k n e s out

-- ---- all records

-- what no check of several finds, none of them finds
pub fault-none_at : (f : ℕ → Option Report) (n i : ℕ) → None ≡ first_fault f n → i < n → f i ≡ None
unfolding first_fault
fault-none_at f zero i h l = absurd (omega arith)
fault-none_at f (suc n) i h l = go (λ e below. fault-none_at f n i e below) (first_fault f n) refl h
  where
    go : (None ≡ first_fault f n → i < n → f i ≡ None) → (o : Option Report) → first_fault f n ≡ o → None ≡ or_else o (f n) → f i ≡ None
    go less (Some r) e h = absurd (let z : ◌≡◌ {A = ℕ} 0 1 = cc in omega arith)
    go less None e h = elim (cases_eq i n) [ inl same ↦ ap f same ∙ sym h | inr other ↦ less (sym e) (omega arith) ]

-- a record adds one operation at most
pub redo-adds : (k : Meaning) (n : ℕ) (e : Entry) (s t : Redone) → Ok t ≡ record_redone k n e s → length t.ops ≤ length s.ops + 1
redo-adds k n e s t h = go (is_installed e n s.images) (is_missing e n s.images) (outcome k e.body e.reads s.images) h
  where
    go : (a b : Bool) (o : Result (List ℕ) ℕ) → Ok t ≡ cond a (Ok s) (cond b (redone_by n e o s) (Err (report (PartlyInstalled n)))) → length t.ops ≤ length s.ops + 1
    go true b o h = let same : t ≡ s = cc in let l : length t.ops ≡ length s.ops = ap (λ (x : Redone). length x.ops) same in omega arith
    go false true (Ok new) h =
        let o : Op = record { number = n; reads = e.reads; writes = e.writes } in
        let same : t ≡ record { images = written e.writes n new s.images; ops = s.ops ++ o ∷ [] } = cc in
        let l : length t.ops ≡ length s.ops + 1 = ap (λ (x : Redone). length x.ops) same ∙ length-append s.ops (o ∷ []) in
        omega arith
    go false true (Err c) h = absurd (let z : ◌≡◌ {A = ℕ} 0 1 = cc in omega arith)
    go false false o h = absurd (let z : ◌≡◌ {A = ℕ} 0 1 = cc in omega arith)

-- where a count from f up to next stands once it is done
pub counted : (f n next : ℕ) → f ≤ n → next ≤ n → (f ≤ next → n ≤ next) → (next ≤ f → n ≡ f) → n - f ≡ next - f
counted f n next from done to none = elim (cases_lt f next) [ inl l ↦ let e = to (omega arith) in omega arith | inr over ↦ let e = none over in omega arith ]

-- the checks of the records from number f on
module _ (k : Meaning) (m : Device) (f : ℕ) where
  abbrev check_at : ℕ → Option Report
  check_at i = record_fault k (f + i) (record_block m (f + i))

  pub records-none : (n : ℕ) → n - f ≡ 0 → None ≡ records_fault k m f (n - f)
  records-none n z = no_fault_yet check_at ∙ ap (first_fault check_at) (sym z)

  pub records-on : (n : ℕ) → f ≤ n → None ≡ records_fault k m f (n - f) → None ≡ record_fault k n (record_block m n) → None ≡ records_fault k m f (n + 1 - f)
  records-on n l h e =
      let at : n ≡ f + (n - f) = omega arith in
      let more : n - f + 1 ≡ n + 1 - f = omega arith in
      fault-none check_at (n - f) h (e ∙ ap (λ j. record_fault k j (record_block m j)) at) ∙ ap (first_fault check_at) more

  pub records-cut : (n next : ℕ) → f ≤ n → n < next → (r : Report) → None ≡ records_fault k m f (n - f) → Some r ≡ record_fault k n (record_block m n)
      → Some r ≡ records_fault k m f (next - f)
  records-cut n next l below r h e =
      let at : n ≡ f + (n - f) = omega arith in
      fault-here check_at (n - f) (next - f) r (omega arith) h (e ∙ ap (λ j. record_fault k j (record_block m j)) at)

  pub records-at : (n next : ℕ) → f ≤ n → n < next → None ≡ records_fault k m f (next - f) → record_fault k n (record_block m n) ≡ None
  records-at n next l below h =
      let at : n ≡ f + (n - f) = omega arith in
      ap (λ j. record_fault k j (record_block m j)) at ∙ fault-none_at check_at (next - f) (n - f) h (omega arith)

module _ (k : Meaning) (m : Device) (f : ℕ) (s : Redone) where
  none-redone : Ok s ≡ records_redone k m f 0 s
  unfolding records_redone
  none-redone = refl

  pub redo-none : (n : ℕ) → n - f ≡ 0 → Ok s ≡ records_redone k m f (n - f) s
  redo-none n z = none-redone ∙ ap (λ i. records_redone k m f i s) (sym z)

  next-is : (i j : ℕ) → j ≡ i + 1 → records_redone k m f j s ≡ and_then (records_redone k m f i s) (record_redone k (f + i) (entry_at m (f + i)))
  unfolding records_redone
  next-is i j e = let one : j ≡ suc i = omega arith in ap (λ n. records_redone k m f n s) one

  -- one record more
  pub redo-more : (n : ℕ) → f ≤ n → (t : Redone) (r : Result Redone Report) → Ok t ≡ records_redone k m f (n - f) s → r ≡ record_redone k n (entry_at m n) t
      → r ≡ records_redone k m f (n + 1 - f) s
  redo-more n l t r h e =
      let at : n ≡ f + (n - f) = omega arith in
      e ∙ ap (λ j. record_redone k j (entry_at m j) t) at
      ∙ sym (next-is (n - f) (n + 1 - f) (omega arith) ∙ ap (λ x. and_then x (record_redone k (f + (n - f)) (entry_at m (f + (n - f))))) (sym h))

  -- a refusal stays
  refused-stays : (n j : ℕ) (r : Report) → Err r ≡ records_redone k m f n s → Err r ≡ records_redone k m f (n + j) s
  refused-stays n zero r h = let z : n + 0 ≡ n = omega arith in rw z h
  refused-stays n (suc j) r h =
      sym (next-is (n + j) (n + suc j) (omega arith) ∙ ap (λ x. and_then x (record_redone k (f + (n + j)) (entry_at m (f + (n + j))))) (sym (refused-stays n j r h)))

  pub redo-refused : (n next : ℕ) → f ≤ n → n < next → (t : Redone) (r : Report) → Ok t ≡ records_redone k m f (n - f) s → Err r ≡ record_redone k n (entry_at m n) t
      → Err r ≡ records_redone k m f (next - f) s
  redo-refused n next l below t r h e =
      let all : n + 1 - f + (next - (n + 1)) ≡ next - f = omega arith in
      refused-stays (n + 1 - f) (next - (n + 1)) r (redo-more n l t (Err r) h e) ∙ ap (λ j. records_redone k m f j s) all

-- ---- the whole recovery

-- reading ends after k records at the latest
pub end_within : (m : Device) (n k : ℕ) → end_of m n k ≤ n + k
unfolding end_of
end_within m n zero = omega arith
end_within m n (suc k) = cond_both (not (eqb n last_number) && bears m n) (end_of m (n + 1) k) n (λ x. x ≤ n + suc k) (λ e. omega (arith, end_within m (n + 1) k)) (λ e. omega arith)

-- a recovery whose records are faultless: what it comes to, by the check of the numbers and the redo
module _ (k : Meaning) (e : Ends) (f next : ℕ) (held : ℕ → List ℕ) (is : next ≡ end_of e.log f 128) (same : held ≡ taken e.store.image)
    (faultless : None ≡ records_fault k e.log f (next - f)) where
  abbrev come_to : ℕ → (ℕ → List ℕ) → Option Report → Volume
  come_to n images fault =
      mounted_by e f n (unless_fault (or_else fault (ahead_fault images n)) (records_redone k e.log f (n - f) (record { images = images; ops = [] })))

  come-true : come_to next held None ≡ mounted_by e f (end_of e.log f 128) (recovered_from k e.log (taken e.store.image) f)
  come-true =
      ap (come_to next held) faultless
      ∙ ap (λ n. come_to n held (records_fault k e.log f (n - f))) is
      ∙ ap (λ images. come_to (end_of e.log f 128) images (records_fault k e.log f (end_of e.log f 128 - f))) same

  pub numbers-refused : (r : Report) → Some r ≡ ahead_fault held next → mounted_halted e r ≡ mounted_by e f (end_of e.log f 128) (recovered_from k e.log (taken e.store.image) f)
  numbers-refused r ahead =
      ap (λ o. mounted_by e f next (unless_fault o (records_redone k e.log f (next - f) (record { images = held; ops = [] })))) ahead ∙ come-true

  pub redo_refused : (r : Report) (s : Redone) → None ≡ ahead_fault held next → s ≡ record { images = held; ops = [] } → Err r ≡ records_redone k e.log f (next - f) s
      → mounted_halted e r ≡ mounted_by e f (end_of e.log f 128) (recovered_from k e.log (taken e.store.image) f)
  redo_refused r s ahead start refused =
      ap (λ x. mounted_by e f next (unless_fault None x)) (refused ∙ ap (records_redone k e.log f (next - f)) start)
      ∙ ap (λ o. mounted_by e f next (unless_fault o (records_redone k e.log f (next - f) (record { images = held; ops = [] })))) ahead
      ∙ come-true
