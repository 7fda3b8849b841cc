-- A trim: the book and the volume keep together, whether or not the header's write dies.
use Rattle.std.proofs.Common.{◌≡◌, ℕ, ◌<◌, ◌≤◌, Bool, true, false, cond, eqb, List, [], length, get_or, set, Some, None, Option, sym, refl, ap, ◌∙◌, subst, ap₂, inl, inr, arith, MatchOption, Err, Ok}
use Rattle.std.proofs.lemmas.List.{length-set, get_or-set_same, get_or-set_other}
use Rattle.std.proofs.lemmas.Bool.{both_ways, cases_Bool, cases_lt}
use Rattle.faults.specs.declared.fault.Fault.TheVariants.{PowerLost}
use Rattle.faults.specs.Faults.{Report, report}
use Rattle.media.specs.Media.{Device, block_count, block_at, lands, Wrote}
use Rattle.media.proofs.PlanLaws.{passed}
use Rattle.kinds.specs.Kinds.{Meaning}
use Rattle.logblocks.specs.Blocks.{header_of}
use Rattle.redo.specs.Histories.{History}
use Rattle.redo.specs.Prefixes.{uninstalled}
use Rattle.redo.proofs.InstallLaws.{uninstalled-parts, uninstalled-from}
use Rattle.volume.specs.Working.{number_of}
use Rattle.volume.specs.LogReading.{place_of}
use Rattle.volume.specs.Statuses.{halted_by, fault_of, halting, Status}
use Rattle.volume.specs.Volumes.{Volume}
use Rattle.volume.specs.Forcing.{trimmed_to, with_header, TrimmedWell, Trimmed}
use Rattle.lives.specs.Books.{Book, next_of, next_logged, history_of}
use Rattle.lives.specs.Lives.{ends_of}
use Rattle.lives.specs.Lives.State.{up}
use Rattle.lives.proofs.Keeping.{Keeps, Kept, Upheld, Booked, LogOf, block_for}
use Rattle.lives.proofs.BlockFacts.{header-length}
use Rattle.lives.proofs.FormatLaws.{well-halted}
use Rattle.lives.proofs.ListFacts.{Lowest, rising-first}
use Rattle.lives.proofs.ForceFacts.{log-same, write-dies}

-- the log with another header
log-headed : (g : ℕ → List ℕ) (t t' n : ℕ) (m m' : Device) → LogOf g t n m → t ≤ t' → m'.blocks ≡ set m.blocks 0 (header_of t') → LogOf g t' n m'
log-headed g t t' n m m' log up' e = record {
  long = let s : block_count m' ≡ block_count m = ap length e ∙ length-set m.blocks 0 (header_of t') in let l = log.long in omega arith;
  header = ap (λ (bs : List (List ℕ)). get_or bs 0 []) e ∙ get_or-set_same m.blocks 0 (header_of t') [] (let l = log.long in omega arith);
  records = λ i a b. other (place_of i) (λ z. omega arith) ∙ log.records i (omega arith) b;
  older = λ b a l. let z : number_of (block_at m' b) ≡ number_of (block_at m b) = ap number_of (other b (λ z. omega arith)) in let o = log.older b a l in omega arith;
}
  where
    other : (b : ℕ) → (b ≡ 0 → ⊥) → block_at m' b ≡ block_at m b
    other b ne = ap (λ (bs : List (List ℕ)). get_or bs b []) e ∙ get_or-set_other m.blocks 0 b (header_of t') [] ne

module _ (k : Meaning) (b : Book) (v : Volume) (I : ℕ → Bool) (t : ℕ) (booked : Booked k b) (kept : Kept k b I t (ends_of v)) (upheld : Upheld k b I t v)
    (well : v.status ≡ Ok tt) where
  abbrev h : History
  h = history_of k b

  abbrev n : ℕ
  n = next_of b

  abbrev t' : ℕ
  t' = trimmed_to v

  lowest : Lowest (uninstalled h I n) n t'
  lowest = subst (Lowest (uninstalled h I n) n) (sym (ap₂ (λ (xs : List ℕ) (d : ℕ). get_or xs 0 d) upheld.lists.numbers upheld.next)) (rising-first (uninstalled h I n) n)

  -- all below it are installed
  all-below : (m : ℕ) → b.first ≤ m → m < t' → I m ≡ true
  all-below m low high = elim (cases_Bool (I m)) [
    | inl i ↦ i
    | inr out ↦ absurd (both_ways (uninstalled h I n m) (lowest.none_below m high) (uninstalled-from h I n m low (let w = lowest.within in omega arith) out))
  ]

  not-logged : (m : ℕ) → next_logged b ≤ m → I m ≡ false
  not-logged m low = elim (cases_Bool (I m)) [ inl i ↦ absurd (omega (arith, kept.in_log m i)) | inr out ↦ out ]

  to-logged : t' ≤ next_logged b
  to-logged = elim (cases_lt (next_logged b) t') [
    | inl over ↦ absurd (both_ways (uninstalled h I n (next_logged b)) (lowest.none_below (next_logged b) over)
        (uninstalled-from h I n (next_logged b) (omega arith) (let w = lowest.within in omega arith) (not-logged (next_logged b) (omega arith))))
    | inr within ↦ within
  ]

  goes-up : t ≤ t'
  goes-up = elim (cases_lt t' t) [
    | inl less ↦
        let s = booked.survives in
        let l = kept.to-logged in
        let p = uninstalled-parts h I n t' (lowest.passes (omega arith)) in
        absurd (both_ways (I t') p.2 (kept.dropped t' p.0 less))
    | inr more ↦ more
  ]

  kept_new : (m : Device) → LogOf (block_for k b) t' (next_logged b) m → Kept k b I t' (record { log = m; store = v.store; plan = v.plan })
  kept_new m log = record {
    installed = kept.installed;
    in_log = kept.in_log;
    from_first = let f = kept.from_first in let u = goes-up in omega arith;
    to-logged = to-logged;
    room = let r = kept.room in let u = goes-up in omega arith;
    dropped = all-below;
    log = log;
    not_short = kept.not_short;
    sized = kept.sized;
  }

  kept-old : (m : Device) → LogOf (block_for k b) t (next_logged b) m → Kept k b I t (record { log = m; store = v.store; plan = v.plan })
  kept-old m log = record {
    installed = kept.installed;
    in_log = kept.in_log;
    from_first = kept.from_first;
    to-logged = kept.to-logged;
    room = kept.room;
    dropped = kept.dropped;
    log = log;
    not_short = kept.not_short;
    sized = kept.sized;
  }

  fits : 0 < block_count v.log
  fits = let l = kept.log.long in omega arith

  trimmed-well : (o : Option Report) (m : Device) → Wrote v.log 0 (header_of t') o m → Keeps k b (up (with_header m o v))
  trimmed-well None m wrote =
      let p = passed wrote.0 v.log m (record { block = 0; bytes = header_of t' }) fits (header-length t') wrote.1 in
      record {
        booked = booked;
        I = I;
        t = t';
        kept = kept_new m (log-headed (block_for k b) t t' (next_logged b) v.log m kept.log goes-up (ap (λ (x : Device). x.blocks) p.1));
        upheld = λ _. record {
          log-live = ap (λ (x : Device). x.live) p.1;
          store-live = upheld.store-live;
          working = upheld.working;
          whole = upheld.whole;
          lists = upheld.lists;
          waiting = upheld.waiting;
          few = upheld.few;
          first = refl;
          next = upheld.next;
          room = let r = upheld.room in let u = goes-up in omega arith;
        };
      }
  trimmed-well (Some r) m wrote =
      let d = write-dies wrote.0 v.log m 0 (header_of t') r fits (header-length t') upheld.log-live wrote.1 in
      left (lands wrote.0) d.1 d.2
    where
      halts : r ≡ report (PowerLost 0) → halting v.status (Some r) ≡ Ok tt → ⊥
      halts e z = well-halted (fault_of r) (sym z ∙ ap (λ (q : Status). halting q (Some r)) well ∙ ap (λ j. cond (eqb j 4) (Err (fault_of r)) (Ok tt)) (ap (λ (y : Report). y.number) e))

      left : (c : Bool) → r ≡ report (PowerLost 0) → m.blocks ≡ cond c (set v.log.blocks 0 (header_of t')) v.log.blocks → Keeps k b (up (with_header m (Some r) v))
      left true e s = record {
        booked = booked;
        I = I;
        t = t';
        kept = kept_new m (log-headed (block_for k b) t t' (next_logged b) v.log m kept.log goes-up s);
        upheld = λ z. absurd (halts e z);
      }
      left false e s = record {
        booked = booked;
        I = I;
        t = t;
        kept = kept-old m (log-same (block_for k b) t (next_logged b) v.log m kept.log s);
        upheld = λ z. absurd (halts e z);
      }

pub trim-keeps_all : (k : Meaning) (b : Book) (v v' : Volume) (o : Option Report) → Trimmed v o v' → Keeps k b (up v) → Keeps k b (up v')
trim-keeps_all k b v v' o c keeps = go v.status refl c
  where
    changes : (x : Bool) → v.status ≡ Ok tt → cond x ((o ≡ None) × (v' ≡ v)) (TrimmedWell v o v') → Keeps k b (up v')
    changes true well c = subst (λ (x : Volume). Keeps k b (up x)) (sym c.1) keeps
    changes false well c = subst (λ (x : Volume). Keeps k b (up x)) (sym c.after) (trimmed-well k b v keeps.I keeps.t keeps.booked keeps.kept (keeps.upheld well) well o c.log c.wrote)

    go : (h : Status) → v.status ≡ h
        → MatchOption (halted_by h) (cond (eqb (trimmed_to v) v.first) ((o ≡ None) × (v' ≡ v)) (TrimmedWell v o v')) (λ r. (o ≡ Some r) × (v' ≡ v)) → Keeps k b (up v')
    go (Ok u) well c = changes (eqb (trimmed_to v) v.first) well c
    go (Err f) halted c = subst (λ (x : Volume). Keeps k b (up x)) (sym c.1) keeps
