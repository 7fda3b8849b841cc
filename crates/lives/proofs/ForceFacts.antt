-- A force: the book and the volume keep together, whichever write dies.
use Rattle.std.proofs.Common.{◌≡◌, ℕ, suc, ◌+◌, ◌-◌, ◌<◌, ◌≤◌, Bool, true, false, cond, eqb, List, [], ◌∷◌, length, get_or, set, Some, None, Option, sym, refl, ap, ◌∙◌, subst, inl, inr, arith, MatchOption, Err, Ok}
use Rattle.std.proofs.lemmas.Option.{none-some, same_Some}
use Rattle.std.proofs.lemmas.List.{length-set, get_or-set_same, get_or-set_other}
use Rattle.std.proofs.lemmas.Bool.{both_ways, cases_eq, cases_lt, lt-leb, lt-ltb, eq-eqb, ne_eqb}
use Rattle.sets.specs.Sets.{first as first_of}
use Rattle.sets.proofs.SetLaws.{first-le, first-hit, first-least}
use Rattle.faults.specs.declared.fault.Fault.TheVariants.{PowerLost}
use Rattle.faults.specs.Faults.{Report, report}
use Rattle.media.specs.declared.fate.Fate.{Fate}
use Rattle.media.specs.declared.fate.Fate.TheVariants.{Lives, DiesOld, DiesNew}
use Rattle.media.specs.Media.{Device, block_count, block_at, check, dies as dies_by, lands, write_fault, fated, after_write, WroteBy}
use Rattle.media.proofs.PlanLaws.{passed}
use Rattle.kinds.specs.Kinds.{Meaning, Lawful}
use Rattle.volume.specs.Working.{number_of}
use Rattle.volume.specs.LogReading.{place_of, record_block}
use Rattle.volume.specs.Statuses.{halted_by, fault_of, halting, Status}
use Rattle.volume.specs.Volumes.{Volume}
use Rattle.volume.specs.Forcing.{Logged, with_log, ForcedWell, Forced}
use Rattle.volume.specs.Forcing.Logged.{all, dies, goes}
use Rattle.lives.specs.Books.{Book, next_of, next_logged, body_at, dying_record, with_all, with_before, fed}
use Rattle.lives.specs.Books.Event.{force}
use Rattle.lives.specs.Lives.{ends_of, answered, fate_in, fate_by}
use Rattle.lives.specs.Lives.State.{up}
use Rattle.lives.proofs.Keeping.{Keeps, Kept, Upheld, Booked, LogOf, Waits, block_for}
use Rattle.lives.proofs.BlockFacts.{BlockOf, block-of}
use Rattle.lives.proofs.FormatLaws.{well-halted}
use Rattle.lives.proofs.ListFacts.{waits-length}

-- ---- one record more in the log

place-within : (n : ℕ) → (1 ≤ place_of n) × (place_of n < 129)
place-within n = (omega arith, omega arith)

pub place-apart : (i n : ℕ) → i < n → n < i + 128 → place_of i ≡ place_of n → ⊥
place-apart i n l r e = omega arith

pub log-more : (g : ℕ → List ℕ) (t n : ℕ) (m m' : Device) → LogOf g t n m → number_of (g n) ≡ n → t ≤ n → n < t + 128 → m'.blocks ≡ set m.blocks (place_of n) (g n) → LogOf g t (suc n) m'
log-more g t n m m' log num low high e = record {
  long = let s = same_count in let l = log.long in omega arith;
  header = other 0 (λ z. omega arith) ∙ log.header;
  records = λ i a b. elim (cases_eq i n) [
    | inl same ↦ subst (λ j. record_block m' j ≡ g j) (sym same) here
    | inr less ↦ other (place_of i) (place-apart i n (omega arith) (omega arith)) ∙ log.records i a (omega arith)
  ];
  older = λ b a l. elim (cases_eq b (place_of n)) [
    | inl same ↦ let z : number_of (block_at m' b) ≡ n = ap (λ j. number_of (block_at m' j)) same ∙ ap number_of here ∙ num in omega arith
    | inr apart ↦ let z : number_of (block_at m' b) ≡ number_of (block_at m b) = ap number_of (other b apart) in let o = log.older b a l in omega arith
  ];
}
  where
    same_count : block_count m' ≡ block_count m
    same_count = ap length e ∙ length-set m.blocks (place_of n) (g n)

    here : block_at m' (place_of n) ≡ g n
    here = ap (λ (bs : List (List ℕ)). get_or bs (place_of n) []) e ∙ get_or-set_same m.blocks (place_of n) (g n) [] (let l = log.long in let p = place-within n in omega arith)

    other : (b : ℕ) → (b ≡ place_of n → ⊥) → block_at m' b ≡ block_at m b
    other b ne = ap (λ (bs : List (List ℕ)). get_or bs b []) e ∙ get_or-set_other m.blocks (place_of n) b (g n) [] ne

-- the same blocks are the same log
pub log-same : (g : ℕ → List ℕ) (t n : ℕ) (m m' : Device) → LogOf g t n m → m'.blocks ≡ m.blocks → LogOf g t n m'
log-same g t n m m' log e = record {
  long = let s : block_count m' ≡ block_count m = ap length e in let l = log.long in omega arith;
  header = at 0 ∙ log.header;
  records = λ i a b. at (place_of i) ∙ log.records i a b;
  older = λ b a l. let z : number_of (block_at m' b) ≡ number_of (block_at m b) = ap number_of (at b) in let o = log.older b a l in omega arith;
}
  where
    at : (b : ℕ) → block_at m' b ≡ block_at m b
    at b = ap (λ (bs : List (List ℕ)). get_or bs b []) e

-- a write that a live medium refuses: the power failed in it
pub write-dies : (f : Fate) (m m' : Device) (b : ℕ) (d : List ℕ) (r : Report) → b < block_count m → length d ≡ 256 → m.live ≡ true → WroteBy f m b d (Some r) m'
    → (dies_by f ≡ true) × (r ≡ report (PowerLost b)) × (m'.blocks ≡ cond (lands f) (set m.blocks b d) m.blocks)
write-dies f m m' b d r in' long live by = go (by.answer ∙ fault) (by.after ∙ left) (dies_by f) refl
  where
    fault : write_fault f m b d ≡ check (dies_by f) (report (PowerLost b)) None
    fault = rw (lt-leb (block_count m) b in', eq-eqb (length d) 256 long, live) refl

    left : after_write f m b d ≡ fated f m b d
    left = rw (lt-ltb b (block_count m) in', eq-eqb (length d) 256 long, live) refl

    go : Some r ≡ check (dies_by f) (report (PowerLost b)) None → m' ≡ fated f m b d → (c : Bool) → dies_by f ≡ c
        → (dies_by f ≡ true) × (r ≡ report (PowerLost b)) × (m'.blocks ≡ cond (lands f) (set m.blocks b d) m.blocks)
    go a e true ec = (ec, same_Some r (report (PowerLost b)) (a ∙ ap (λ (c : Bool). check c (report (PowerLost b)) None) ec), ap (λ (x : Device). x.blocks) e)
    go a e false ec = absurd (none-some r (sym (ap (λ (c : Bool). check c (report (PowerLost b)) None) ec) ∙ sym a))

-- ---- the records that wait are written in order

-- what the writing of the records g from l up to n comes to
abbrev Written : (ℕ → List ℕ) → ℕ → ℕ → ℕ → Option Report → Device → List (List ℕ) → Fate → Type 0
Written g t n l None m left f = LogOf g t n m × (m.live ≡ true) × (left ≡ [])
Written g t n l (Some r) m left f =
    (x : ℕ) × (l ≤ x) × (x < n) × (r ≡ report (PowerLost (place_of x))) × LogOf g t (x + cond (lands f) 1 0) m × (dies_by f ≡ true)

abbrev BlocksGood : (ℕ → List ℕ) → ℕ → ℕ → Type 0
BlocksGood g l n = (i : ℕ) → l ≤ i → i < n → (length (g i) ≡ 256) × (number_of (g i) ≡ i)

module _ (g : ℕ → List ℕ) (t n : ℕ) (room : n ≤ t + 128) where
  written_from : (l : ℕ) (o : Option Report) (m : Device) (left : List (List ℕ)) (f : Fate) → Written g t n (suc l) o m left f → Written g t n l o m left f
  written_from l None m left f w = w
  written_from l (Some r) m left f w = (w.0, (let a = w.1 in omega arith), w.2, w.3, w.4, w.5)

  dying : (f : Fate) (l : ℕ) (m m' : Device) (b : List ℕ) (left : List (List ℕ)) (r : Report) → b ≡ g l → l < n → t ≤ l → (length (g l) ≡ 256) × (number_of (g l) ≡ l)
      → LogOf g t l m → m.live ≡ true → WroteBy f m (place_of (number_of b)) b (Some r) m' → Written g t n l (Some r) m' left f
  dying f l m m' b left r e less low good log live by =
      let at = at-number (subst (λ (x : List ℕ). WroteBy f m (place_of (number_of x)) x (Some r) m') e by) in
      let d = write-dies f m m' (place_of l) (g l) r (let p = place-within l in let o = log.long in omega arith) good.0 live at in
      (l, omega arith, less, d.1, lands-at (lands f) d.2, d.0)
    where
      at-number : WroteBy f m (place_of (number_of (g l))) (g l) (Some r) m' → WroteBy f m (place_of l) (g l) (Some r) m'
      at-number x = subst (λ j. WroteBy f m (place_of j) (g l) (Some r) m') good.1 x

      lands-at : (c : Bool) → m'.blocks ≡ cond c (set m.blocks (place_of l) (g l)) m.blocks → LogOf g t (l + cond c 1 0) m'
      lands-at true s = subst (λ j. LogOf g t j m') (let z : suc l ≡ l + 1 = omega arith in z) (log-more g t l m m' log good.1 low (omega arith) s)
      lands-at false s = subst (λ j. LogOf g t j m') (let z : l ≡ l + 0 = omega arith in z) (log-same g t l m m' log s)

  pub force-log : {m m' : Device} {ws left : List (List ℕ)} {o : Option Report} (d : Logged m ws o m' left) (l : ℕ) → Waits g n ws l → t ≤ l → BlocksGood g l n
      → LogOf g t l m → m.live ≡ true → Written g t n l o m' left (fate_in d)
  unfolding fate_in
  force-log (all {m}) l w low good log live = (subst (λ j. LogOf g t j m) w log, live, refl)
  force-log (dies {m} {m'} {b} {bs} {r} f by) l w low good log live =
      let less : l < n = let e = waits-length g n bs (suc l) w.1 in omega arith in
      dying f l m m' b (b ∷ bs) r w.0 less low (good l (omega arith) less) log live by
  force-log (goes {m} {m₁} {m'} {b} {bs} {left} {o} f by rest) l w low good log live =
      let less : l < n = let e = waits-length g n bs (suc l) w.1 in omega arith in
      let ok = good l (omega arith) less in
      let by₁ : WroteBy f m (place_of l) (g l) None m₁ = subst (λ j. WroteBy f m (place_of j) (g l) None m₁) ok.1 (subst (λ (x : List ℕ). WroteBy f m (place_of (number_of x)) x None m₁) w.0 by) in
      let p = passed f m m₁ (record { block = place_of l; bytes = g l }) (let p = place-within l in let q = log.long in omega arith) ok.0 by₁ in
      let log₁ = log-more g t l m m₁ log ok.1 low (omega arith) (ap (λ (x : Device). x.blocks) p.1) in
      written_from l o m' left (fate_in rest)
      (force-log rest (suc l) w.1 (omega arith) (λ i a c. good i (omega arith) c) log₁ (ap (λ (x : Device). x.live) p.1))

-- ---- which record died

pub first-at : (f : ℕ → Bool) (p j x : ℕ) → p ≤ x → x < p + j → f x ≡ true → ((q : ℕ) → p ≤ q → q < x → f q ≡ false) → first_of f p j ≡ x
first-at f p j x low high hit none = elim (cases_lt (first_of f p j) x) [
  | inl less ↦ absurd (both_ways (f (first_of f p j)) (none (first_of f p j) (first-le f p j).0 less) (first-hit f p j (omega arith)))
  | inr more ↦ elim (cases_lt x (first_of f p j)) [
    | inl over ↦ absurd (both_ways (f x) (first-least f p j x low over) hit)
    | inr equal ↦ omega arith
  ]
]

pub dying-record : (b : Book) (x : ℕ) (r : Report) → next_logged b ≤ x → x < next_of b → next_of b ≤ next_logged b + 128 → r ≡ report (PowerLost (place_of x)) → dying_record b r ≡ x
dying-record b x r low high near e =
    first-at (λ i. eqb (place_of i) r.place) (next_logged b) (length b.bodies - b.logged) x low (omega arith)
    (eq-eqb (place_of x) r.place (sym (ap (λ (y : Report). y.place) e)))
    (λ q a l. ne_eqb (place_of q) r.place (λ z. place-apart q x l (omega arith) (z ∙ ap (λ (y : Report). y.place) e)))

-- ---- the blocks of a book's records

pub booked-block : (k : Meaning) → Lawful k → (b : Book) → Booked k b → (i : ℕ) → b.first ≤ i → i < next_of b → BlockOf k i (body_at b i) (block_for k b i)
booked-block k law b booked i low high =
    block-of k law i (body_at b i) (let l = booked.numbered in omega arith) (booked.sound (i - b.first) (omega arith))

-- ---- the whole

module _ (k : Meaning) (law : Lawful k) (b : Book) (v : Volume) (I : ℕ → Bool) (t : ℕ) (booked : Booked k b) (kept : Kept k b I t (ends_of v)) (upheld : Upheld k b I t v)
    (well : v.status ≡ Ok tt) where
  good : BlocksGood (block_for k b) (next_logged b) (next_of b)
  good i low high = let x = booked-block k law b booked i (omega arith) high in (x.long, x.number)

  all-logged : next_logged (with_all b) ≡ next_of b
  all-logged = refl

  -- all were written
  forced-all : (m : Device) → LogOf (block_for k b) t (next_of b) m → m.live ≡ true → Keeps k (with_all b) (up (with_log m [] None v))
  forced-all m log live = record {
    booked = record {
      from_one = booked.from_one;
      numbered = booked.numbered;
      told = omega arith;
      survives = omega arith;
      sound = booked.sound;
      ran = booked.ran;
    };
    I = I;
    t = t;
    kept = record {
      installed = kept.installed;
      in_log = λ m i. let x = kept.in_log m i in let s = booked.survives in omega arith;
      from_first = kept.from_first;
      to-logged = let x = kept.to-logged in let s = booked.survives in omega arith;
      room = upheld.room;
      dropped = kept.dropped;
      log = log;
      not_short = kept.not_short;
      sized = kept.sized;
    };
    upheld = λ _. record {
      log-live = live;
      store-live = upheld.store-live;
      working = upheld.working;
      whole = upheld.whole;
      lists = upheld.lists;
      waiting = refl;
      few = omega arith;
      first = upheld.first;
      next = upheld.next;
      room = upheld.room;
    };
  }

  -- one died, at the record x
  forced-part : (x : ℕ) (r : Report) (f : Fate) (m : Device) (left : List (List ℕ)) → next_logged b ≤ x → x < next_of b → r ≡ report (PowerLost (place_of x))
      → LogOf (block_for k b) t (x + cond (lands f) 1 0) m → Keeps k (with_before b x f) (up (with_log m left (Some r) v))
  forced-part x r f m left low high e log =
      let c : cond (lands f) 1 0 ≤ 1 = at_most (lands f) in
      let s : next_logged (with_before b x f) ≡ x + cond (lands f) 1 0 = omega arith in
      record {
        booked = record {
          from_one = booked.from_one;
          numbered = booked.numbered;
          told = let y = booked.told in omega arith;
          survives = omega arith;
          sound = booked.sound;
          ran = booked.ran;
        };
        I = I;
        t = t;
        kept = record {
          installed = kept.installed;
          in_log = λ m i. let y = kept.in_log m i in omega arith;
          from_first = kept.from_first;
          to-logged = let y = kept.to-logged in omega arith;
          room = let y = upheld.room in omega arith;
          dropped = kept.dropped;
          log = subst (λ j. LogOf (block_for k b) t j m) (sym s) log;
          not_short = kept.not_short;
          sized = kept.sized;
        };
        upheld = λ z. absurd (well-halted (fault_of r) (sym z ∙ ap (λ (q : Status). halting q (Some r)) well ∙ ap (λ j. cond (eqb j 4) (Err (fault_of r)) (Ok tt)) (ap (λ (y : Report). y.number) e)));
      }
    where
      at_most : (c : Bool) → cond c 1 0 ≤ 1
      at_most true = omega arith
      at_most false = omega arith

  forced-well : {o : Option Report} {m : Device} {left : List (List ℕ)} (a : ℕ) (d : Logged v.log v.waiting o m left) → Keeps k (fed b (force (answered a o) (fate_in d))) (up (with_log m left o v))
  forced-well {o} {m} {left} a d =
      ends o (fate_in d) (force-log (block_for k b) t (next_of b) upheld.room d (next_logged b) upheld.waiting kept.to-logged good kept.log upheld.log-live)
    where
      near : next_of b ≤ next_logged b + 128
      near = let w = waits-length (block_for k b) (next_of b) v.waiting (next_logged b) upheld.waiting in let q = upheld.few in omega arith

      ends : (o : Option Report) (f : Fate) → Written (block_for k b) t (next_of b) (next_logged b) o m left f → Keeps k (fed b (force (answered a o) f)) (up (with_log m left o v))
      ends None f w = subst (λ (ls : List (List ℕ)). Keeps k (with_all b) (up (with_log m ls None v))) (sym w.2) (forced-all m w.0 w.1)
      ends (Some r) Lives w = absurd (both_ways false refl w.5)
      ends (Some r) DiesOld w =
          subst (λ x. Keeps k (with_before b x DiesOld) (up (with_log m left (Some r) v))) (sym (dying-record b w.0 r w.1 w.2 near w.3)) (forced-part w.0 r DiesOld m left w.1 w.2 w.3 w.4)
      ends (Some r) DiesNew w =
          subst (λ x. Keeps k (with_before b x DiesNew) (up (with_log m left (Some r) v))) (sym (dying-record b w.0 r w.1 w.2 near w.3)) (forced-part w.0 r DiesNew m left w.1 w.2 w.3 w.4)

pub force-keeps_all : (k : Meaning) → Lawful k → (b : Book) (v v' : Volume) (o : Option Report) (c : Forced v o v') → Keeps k b (up v)
    → Keeps k (fed b (force (answered (v.next - 1) o) (fate_by v v' o (halted_by v.status) c))) (up v')
force-keeps_all k law b v v' o c keeps = go v.status refl c
  where
    go : (h : Status) → v.status ≡ h → (c : MatchOption (halted_by h) (ForcedWell v o v') (λ r. (o ≡ Some r) × (v' ≡ v))) → Keeps k (fed b (force (answered (v.next - 1) o) (fate_by v v' o (halted_by h) c))) (up v')
    go (Ok u) well c =
        subst (λ (x : Volume). Keeps k (fed b (force (answered (v.next - 1) o) (fate_in c.logged))) (up x)) (sym c.after)
        (forced-well k law b v keeps.I keeps.t keeps.booked keeps.kept (keeps.upheld well) well (v.next - 1) c.logged)
    go (Err f) halted c =
        subst (λ (x : Option Report). Keeps k (fed b (force (answered (v.next - 1) x) Lives)) (up v')) (sym c.0)
        (subst (λ (x : Volume). Keeps k b (up x)) (sym c.1) keeps)
