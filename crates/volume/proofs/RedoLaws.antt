-- Redo of one record, as the history of the log's operations has it.
use Rattle.std.proofs.Common.{◌≡◌, ℕ, suc, ◌<◌, ◌≤◌, Bool, true, false, cond, not, ◌&&◌, ◌||◌, eqb, ltb, leb, List, [], ◌∷◌, ◌++◌, map, Some, None, Ok, Err, Result, sym, refl, ap, ◌∙◌, ap₂, arith}
use mathlib.Core.Path.{fun_ext}
use Rattle.std.specs.List.{flat_map, AllByRecursion}
use Rattle.std.proofs.lemmas.List.{append-nil, map_push}
use Rattle.std.proofs.ByRecursion.{All-push}
use Rattle.std.proofs.lemmas.Bool.{eqb-true, and_parts, le-leb, lt-ltb, not_from_true, not_from_false, cond-true, cond-false}
use Rattle.sets.specs.Sets.{has, pages, rising}
use Rattle.sets.proofs.SetLaws.{has_within}
use Rattle.faults.specs.declared.fault.Fault.TheVariants.{SetsDiffer, PartlyInstalled}
use Rattle.faults.specs.Faults.{Report, report}
use Rattle.media.specs.Media.{Device}
use Rattle.kinds.specs.Kinds.{Meaning, Lawful}
use Rattle.logblocks.specs.Blocks.{Entry, entry_of, is_record_block}
use Rattle.redo.specs.Histories.{Page, Operation, History, reads, writes, contents_of, effect_on, run, Ran}
use Rattle.redo.specs.Prefixes.{uninstalled, Recoverable}
use Rattle.redo.specs.Recovery.{every, present, missing, redo}
use Rattle.redo.specs.Theorems.{Recovers}
use Rattle.redo.proofs.HistoryLaws.{run-written, run-unwritten}
use Rattle.redo.proofs.RecoveryLaws.{redo-recovers}
use Rattle.graph.specs.declared.op.Op.{Op}
use Rattle.graph.specs.Listing.{ScopeOf}
use Rattle.volume.specs.Working.{gathered, share_of, written}
use Rattle.volume.specs.LogReading.{record_block, sets_fault, entry_fault, record_fault}
use Rattle.volume.specs.Performing.{outcome}
use Rattle.volume.specs.Mounting.{entry_at, is_installed, is_missing, Redone, redone_by, record_redone}
use Rattle.volume.specs.Surviving.{page_of, shares, operation_by, operation_of, LogHolds}
use Rattle.volume.proofs.SharedLaws.{page-written, page-unwritten}

-- ---- a record without fault has the sets of its kind

abbrev scope_is : ℕ → ℕ → Result (ℕ × ℕ) ℕ
scope_is r w = Ok (r, w)

sets-scope : (n : ℕ) (e : Entry) (x : Result (ℕ × ℕ) ℕ) → sets_fault n e x ≡ None → x ≡ Ok (e.reads, e.writes)
sets-scope n e (Ok (r, w)) h = go (eqb e.reads r && eqb e.writes w) refl h
  where
    go : (b : Bool) → (eqb e.reads r && eqb e.writes w) ≡ b → cond b None (Some (report (SetsDiffer n))) ≡ None → scope_is r w ≡ scope_is e.reads e.writes
    go true same z =
        let both = and_parts (eqb e.reads r) (eqb e.writes w) same in
        ap₂ scope_is (sym (eqb-true e.reads r both.0)) (sym (eqb-true e.writes w both.1))
    go false same z = absurd (let c : ◌≡◌ {A = ℕ} 0 1 = cc in omega arith)
sets-scope n e (Err c) h = absurd (let z : ◌≡◌ {A = ℕ} 0 1 = cc in omega arith)

pub record_scope : (k : Meaning) (n : ℕ) (block : List ℕ) → record_fault k n block ≡ None
    → k.scope (entry_of block).body ≡ Ok ((entry_of block).reads, (entry_of block).writes)
record_scope k n block h = go (is_record_block block) h
  where
    go : (b : Bool) → entry_fault k n (cond b (Some (entry_of block)) None) ≡ None → k.scope (entry_of block).body ≡ Ok ((entry_of block).reads, (entry_of block).writes)
    go true z = sets-scope n (entry_of block) (k.scope (entry_of block).body) z
    go false z = absurd (let c : ◌≡◌ {A = ℕ} 0 1 = cc in omega arith)

-- what gives shares gave new contents
shares-from : (w : ℕ) (x : Result (List ℕ) ℕ) (new : ℕ → List ℕ) → shares w x ≡ Some new → (bytes : List ℕ) × (x ≡ Ok bytes)
shares-from w (Ok bytes) new e = (bytes, refl)
shares-from w (Err c) new e = absurd (let z : ◌≡◌ {A = ℕ} 0 1 = cc in omega arith)

-- ---- an operation of the history that is a record's

module _ (k : Meaning) (h : History) (m : ℕ) (e : Entry) (from : h.first ≤ m)
    (scoped : k.scope e.body ≡ Ok (e.reads, e.writes)) (same : h.operation m ≡ operation_of k e.body) where
  operation-is : h.operation m ≡ operation_by k e.body (Ok (e.reads, e.writes))
  operation-is = same ∙ ap (operation_by k e.body) scoped

  pub reads-has : (p : ℕ) → reads h m p ≡ has e.reads p
  reads-has p = ap₂ (λ (b : Bool) (o : Operation). b && o.reads p) (le-leb h.first m from) operation-is

  pub writes-has : (p : ℕ) → writes h m p ≡ has e.writes p
  writes-has p = ap₂ (λ (b : Bool) (o : Operation). b && o.writes p) (le-leb h.first m from) operation-is

  -- on images that hold the pages v
  module _ (images : ℕ → List ℕ) (v : ℕ → Page) (held : (p : ℕ) → page_of (images p) ≡ v p) where
    pub installed-is : is_installed e m images ≡ present h m v
    installed-is = ap (every 64) (fun_ext (λ p. ap₂ (λ (b : Bool) (q : Page). not b || leb m q.number) (sym (writes-has p)) (held p)))

    pub missing-is : is_missing e m images ≡ missing h m v
    missing-is = ap (every 64) (fun_ext (λ p. ap₂ (λ (b : Bool) (q : Page). not b || ltb q.number m) (sym (writes-has p)) (held p)))

    pub outcome-is : effect_on h m v ≡ shares e.writes (outcome k e.body e.reads images)
    outcome-is =
        ap (λ (o : Operation). o.effect (contents_of v)) operation-is
        ∙ ap (λ (old : ℕ → List ℕ). shares e.writes (k.effect e.body (flat_map old (pages e.reads))))
        (fun_ext (λ p. ap (λ (q : Page). q.contents) (sym (held p))))

-- ---- one step of redo on pages, and of the list of those not installed

redo-suc : (h : History) (m : ℕ) (w : ℕ → Page) → redo h (suc m) w ≡ cond (missing h m (redo h m w)) (run h m (redo h m w)) (redo h m w)
unfolding redo
redo-suc h m w = refl

redo-left : (h : History) (m : ℕ) (w : ℕ → Page) (p : ℕ) → missing h m (redo h m w) ≡ false → redo h (suc m) w p ≡ redo h m w p
redo-left h m w p e =
    ap (λ (v : ℕ → Page). v p) (redo-suc h m w ∙ cond-false (missing h m (redo h m w)) (run h m (redo h m w)) (redo h m w) e)

redo-runs : (h : History) (m : ℕ) (w : ℕ → Page) (p : ℕ) → missing h m (redo h m w) ≡ true → redo h (suc m) w p ≡ run h m (redo h m w) p
redo-runs h m w p e =
    ap (λ (v : ℕ → Page). v p) (redo-suc h m w ∙ cond-true (missing h m (redo h m w)) (run h m (redo h m w)) (redo h m w) e)

rising-skip : (f : ℕ → Bool) (m : ℕ) → f m ≡ false → rising f (suc m) ≡ rising f m
unfolding rising
rising-skip f m e = ap (λ b. rising f m ++ cond b (m ∷ []) []) e ∙ append-nil (rising f m)

rising-hit : (f : ℕ → Bool) (m : ℕ) → f m ≡ true → rising f (suc m) ≡ rising f m ++ m ∷ []
unfolding rising
rising-hit f m e = ap (λ b. rising f m ++ cond b (m ∷ []) []) e

-- ---- redo of the log's records keeps to redo of the history

-- how far a mount has come once it did the records below m: its images hold the pages that redo makes of stored pages w, and its
-- operations are those below m that are not installed
pub record Come (h : History) (I : ℕ → Bool) (n : ℕ) (w : ℕ → Page) (m : ℕ) (s : Redone) : Type 0 where
  pub held : (p : ℕ) → page_of (s.images p) ≡ redo h m w p
  pub numbers : map (λ (o : Op). o.number) s.ops ≡ rising (uninstalled h I n) m
  pub scopes : AllByRecursion (ScopeOf h) s.ops

-- a result that has come so far
abbrev pub Comes : History → (ℕ → Bool) → ℕ → (ℕ → Page) → ℕ → Result Redone Report → Type 0
Comes h I n w m x = (s : Redone) × (x ≡ Ok s) × Come h I n w m s

module _ (k : Meaning) (law : Lawful k) (d : Device) (h : History) (I : ℕ → Bool) (n : ℕ) (w : ℕ → Page)
    (holds : LogHolds k d h n) (ran : Ran h n) (rec : Recoverable h I n w) where
  recovers : Recovers h I n w
  recovers = redo-recovers h I n w ran rec

  -- record m on a state that has come to it
  module _ (m : ℕ) (from : h.first ≤ m) (below : m < n) (s : Redone) (come : Come h I n w m s) where
    abbrev entry : Entry
    entry = entry_at d m

    scoped : k.scope entry.body ≡ Ok (entry.reads, entry.writes)
    scoped = record_scope k m (record_block d m) (holds.faultless m from below)

    same : h.operation m ≡ operation_of k entry.body
    same = holds.operations m from below

    is-installed : is_installed entry m s.images ≡ I m
    is-installed = installed-is k h m entry from scoped same s.images (redo h m w) come.held ∙ recovers.present_then m from below

    is-missing : is_missing entry m s.images ≡ not (I m)
    is-missing = missing-is k h m entry from scoped same s.images (redo h m w) come.held ∙ recovers.missing_then m from below

    -- what becomes of one that is not installed
    abbrev unless_installed : Result Redone Report
    unless_installed =
        cond (is_missing entry m s.images) (redone_by m entry (outcome k entry.body entry.reads s.images) s) (Err (report (PartlyInstalled m)))

    told : uninstalled h I n m ≡ not (I m)
    told =
        ap (λ b. b && (ltb m n && not (I m))) (le-leb h.first m from)
        ∙ ap (λ b. b && not (I m)) (lt-ltb m n below)

    -- an installed one is left
    left : I m ≡ true → Comes h I n w (suc m) (record_redone k m entry s)
    left i = (
      s,
      cond-true (is_installed entry m s.images) (Ok s) unless_installed (is-installed ∙ i),
      record {
        held = λ p. come.held p ∙ sym (redo-left h m w p (recovers.missing_then m from below ∙ not_from_true (I m) i));
        numbers = come.numbers ∙ sym (rising-skip (uninstalled h I n) m (told ∙ not_from_true (I m) i));
        scopes = come.scopes;
      },
    )

    -- a missing one has its first effect again
    abbrev result : Result (List ℕ) ℕ
    result = outcome k entry.body entry.reads s.images

    effect_is : effect_on h m (redo h m w) ≡ shares entry.writes result
    effect_is = outcome-is k h m entry from scoped same s.images (redo h m w) come.held

    accepted : I m ≡ false → (new : List ℕ) × (result ≡ Ok new)
    accepted out =
        let ok = recovers.accepted m from below out in
        shares-from entry.writes result ok.0 (sym effect_is ∙ ok.1)

    module _ (out : I m ≡ false) (new : List ℕ) (gave : result ≡ Ok new) where
      abbrev op : Op
      op = record { number = m; reads = entry.reads; writes = entry.writes }

      abbrev next : Redone
      next = record { images = written entry.writes m new s.images; ops = s.ops ++ op ∷ [] }

      goes : record_redone k m entry s ≡ Ok next
      goes =
          cond-false (is_installed entry m s.images) (Ok s) unless_installed (is-installed ∙ out)
          ∙ cond-true (is_missing entry m s.images) (redone_by m entry result s) (Err (report (PartlyInstalled m))) (is-missing ∙ not_from_false (I m) out)
          ∙ ap (λ x. redone_by m entry x s) gave

      wrote : (p : ℕ) (b : Bool) → has entry.writes p ≡ b → page_of (written entry.writes m new s.images p) ≡ run h m (redo h m w) p
      wrote p true e =
          page-written entry.writes m new s.images p (omega (arith, holds.numbered))
          (law.sized entry.body (gathered entry.reads s.images) new entry.reads entry.writes scoped gave)
          (has_within entry.writes p (law.scoped entry.body entry.reads entry.writes scoped).writes_pages e) e
          ∙ sym (run-written h m p (redo h m w) (share_of entry.writes new) (writes-has k h m entry from scoped same p ∙ e) (effect_is ∙ ap (shares entry.writes) gave))
      wrote p false e =
          page-unwritten entry.writes m new s.images p e ∙ come.held p
          ∙ sym (run-unwritten h m p (redo h m w) (writes-has k h m entry from scoped same p ∙ e))

      redone : Comes h I n w (suc m) (record_redone k m entry s)
      redone = (
        next,
        goes,
        record {
          held = λ p. wrote p (has entry.writes p) refl ∙ sym (redo-runs h m w p (recovers.missing_then m from below ∙ not_from_false (I m) out));
          numbers =
              map_push (λ (o : Op). o.number) s.ops op ∙ ap (λ (xs : List ℕ). xs ++ m ∷ []) come.numbers
              ∙ sym (rising-hit (uninstalled h I n) m (told ∙ not_from_false (I m) out));
          scopes =
              All-push (ScopeOf h) s.ops op come.scopes
              (λ p. sym (reads-has k h m entry from scoped same p), λ p. sym (writes-has k h m entry from scoped same p));
        },
      )

    pub does_record : Comes h I n w (suc m) (record_redone k m (entry_at d m) s)
    does_record = go (I m) refl
      where
        go : (b : Bool) → I m ≡ b → Comes h I n w (suc m) (record_redone k m (entry_at d m) s)
        go true i = left i
        go false out = let ok = accepted out in redone out ok.0 ok.1
