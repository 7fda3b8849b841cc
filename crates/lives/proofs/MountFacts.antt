-- A mount: what it gives, and that the book and the volume keep together.
use Rattle.std.proofs.Common.{◌≡◌, ℕ, zero, suc, ◌+◌, ◌-◌, ◌*◌, ◌<◌, ◌≤◌, Bool, true, false, cond, not, ltb, leb, List, [], length, get_or, take, replicate, Some, None, Ok, Err, Option, Result, sym, refl, ap, ◌∙◌, subst, inl, inr, arith}
use Rattle.std.proofs.ByRecursion.{All-from_get_or}
use Rattle.std.proofs.lemmas.List.{length-replicate, length-take-le, get_or-take}
use Rattle.std.proofs.lemmas.Bool.{both_ways, cases_eq, cond-true, cond-false, ne_eqb, eq-eqb, le-leb, lt-ltb, or_from, not_from_true}
use Rattle.sets.specs.Sets.{has, size}
use Rattle.faults.specs.declared.fault.Fault.TheVariants.{TooShort, PartlyInstalled}
use Rattle.faults.specs.Faults.{Report, report}
use Rattle.media.specs.Media.{Device, block_count, block_at, powered}
use Rattle.stores.specs.Stores.{State, is_short, powered as revived, revived as revive}
use Rattle.stores.specs.Stores.State.{Live, Dead, Short}
use Rattle.kinds.specs.Kinds.{Meaning, Lawful}
use Rattle.logblocks.specs.Blocks.{Entry, block_of, header_in}
use Rattle.redo.specs.Histories.{Page, History, after, Ran}
use Rattle.redo.specs.Prefixes.{uninstalled, Installed}
use Rattle.redo.specs.Installation.{trimmed}
use Rattle.redo.specs.Theorems.{AfterLoss, AfterTrim}
use Rattle.redo.proofs.TestLaws.{rising-like}
use Rattle.redo.proofs.InstallLaws.{uninstalled-parts}
use Rattle.redo.proofs.KeepLaws.{loss_keeps_lem, trim-keeps, trimmed-reads, trimmed-writes}
use Rattle.redo.proofs.RecoveryLaws.{installed-recoverable}
use Rattle.graph.specs.Ops.{nothing}
use Rattle.graph.specs.Listing.{ScopeOf, Lists}
use Rattle.graph.proofs.ListLaws.{scope-at, listed-dirty}
use Rattle.volume.specs.Statuses.{halted_by}
use Rattle.volume.specs.Working.{number_of, gathered, share_of, stamped, written, taken}
use Rattle.volume.specs.LogReading.{place_of, record_block, bears, last_number, end_of}
use Rattle.volume.specs.Performing.{outcome}
use Rattle.volume.specs.Volumes.{Ends, Volume}
use Rattle.volume.specs.Formatting.{too_short}
use Rattle.volume.specs.Mounting.{entry_at, is_installed, is_missing, Redone, redone_by, record_redone, and_then, records_redone, unless_fault, recovered_from, mounted_halted, mounted_by, mounted_at, mounted}
use Rattle.volume.specs.Surviving.{stored_pages, working_pages, operation_of, LogHolds, Shown, MountRecovers}
use Rattle.volume.proofs.ReadingLaws.{end_none, end_last, end_here, end_on}
use Rattle.volume.proofs.WorkingLaws.{image-length}
use Rattle.lives.specs.Books.{Book, next_of, next_logged, body_at, history_of, logged_alone, fed}
use Rattle.lives.specs.Books.Event.{mount}
use Rattle.lives.specs.Lives.{ends_of, answered}
use Rattle.lives.specs.Lives.State.{down, up}
use Rattle.lives.specs.Laws.{Recovered}
use Rattle.lives.proofs.Keeping.{Keeps, Kept, Upheld, Booked, LogOf, Sound, Waits, entry_by, block_for}
use Rattle.lives.proofs.BlockFacts.{BlockOf, header-reads}
use Rattle.lives.proofs.AgreeLaws.{same_after, same-ran, same-installed, same_lists}
use Rattle.lives.proofs.RunFacts.{stamped-length, share_length}
use Rattle.lives.proofs.ForceFacts.{booked-block}

-- ---- where reading ends

module _ (g : ℕ → List ℕ) (t n : ℕ) (m : Device) (log : LogOf g t n m) (small : n ≤ last_number) (good : (i : ℕ) → t ≤ i → i < n → number_of (g i) ≡ i) where
  bears-record : (i : ℕ) → t ≤ i → i < n → bears m i ≡ true
  bears-record i a l = eq-eqb (number_of (record_block m i)) i (ap number_of (log.records i a l) ∙ good i a l)

  bears-not : bears m n ≡ false
  bears-not = let o = log.older (place_of n) (omega arith) (omega arith) in ne_eqb (number_of (record_block m n)) n (λ e. omega arith)

  end_from : (j i : ℕ) → t ≤ i → i ≤ n → n ≤ i + j → end_of m i j ≡ n
  end_from zero i a l r = end_none m i ∙ (let e : i ≡ n = omega arith in e)
  end_from (suc j) i a l r = elim (cases_eq i n) [
    | inl same ↦ elim (cases_eq n last_number) [
      | inl last ↦ end_last m i j (suc j) (omega arith) (same ∙ last) ∙ same
      | inr other ↦ end_here m i j (suc j) (omega arith) (ap (bears m) same ∙ bears-not) ∙ same
    ]
    | inr less ↦ end_on m i j (suc j) (omega arith) (λ e. omega arith) (bears-record i a (omega arith)) ∙ end_from j (i + 1) (omega arith) (omega arith) (omega arith)
  ]

-- ---- what is wrong with a book's log: nothing

entry-body : (n : ℕ) (body : List ℕ) (x : Result (ℕ × ℕ) ℕ) → (entry_by n body x).body ≡ body
entry-body n body (Ok (r, w)) = refl
entry-body n body (Err c) = refl

module _ (k : Meaning) (law : Lawful k) (b : Book) (e : Ends) (I : ℕ → Bool) (t : ℕ) (booked : Booked k b) (kept : Kept k b I t e) where
  abbrev h : History
  h = history_of k b

  abbrev n : ℕ
  n = next_of b

  abbrev L : ℕ
  L = next_logged b

  within : L ≤ n
  within = let s = booked.survives in omega arith

  block-at : (i : ℕ) → t ≤ i → i < L → BlockOf k i (body_at b i) (record_block e.log i)
  block-at i a l =
      let f = kept.from_first in
      let w = within in
      subst (BlockOf k i (body_at b i)) (sym (kept.log.records i a l)) (booked-block k law b booked i (omega arith) (omega arith))

  number-good : (i : ℕ) → t ≤ i → i < L → number_of (block_for k b i) ≡ i
  number-good i a l = ap number_of (sym (kept.log.records i a l)) ∙ (block-at i a l).number

  header_at : header_in (block_at e.log 0) ≡ Some t
  header_at =
      let f = kept.from_first in
      let o = booked.from_one in
      let s = booked.numbered in
      let w = within in
      let l = kept.to-logged in
      ap header_in kept.log.header ∙ header-reads t (omega arith) (omega arith)

  end_at : end_of e.log t 128 ≡ L
  end_at = end_from (block_for k b) t L e.log kept.log (let s = booked.numbered in let w = within in omega arith) number-good 128 t (omega arith) kept.to-logged kept.room

  log-holds : LogHolds k e.log (trimmed h t) L
  log-holds = record {
    header = header_at;
    ends = end_at;
    numbered = let s = booked.numbered in let w = within in omega arith;
    faultless = λ i a l. (block-at i a l).faultless;
    operations = λ i a l. ap (operation_of k) (sym (ap (λ (x : Entry). x.body) (block-at i a l).says ∙ entry-body i (body_at b i) (k.scope (body_at b i))));
  }

  long-enough : too_short e.log e.store ≡ false
  long-enough = or_from (not (leb 129 (block_count e.log))) (is_short e.store.state) (not_from_true (leb 129 (block_count e.log)) (le-leb 129 (block_count e.log) kept.log.long)) kept.not_short

  lost : AfterLoss h I n L (stored_pages e.store)
  lost = loss_keeps_lem h I n L (stored_pages e.store) booked.ran kept.installed within kept.in_log

  cut : AfterTrim h I L t (stored_pages e.store)
  cut = trim-keeps h I L t (stored_pages e.store) lost.ran lost.installed kept.from_first kept.to-logged kept.dropped

  module _ (recovers : MountRecovers k e) where
    shown : Shown (trimmed h t) I L (mounted k e)
    shown = recovers (trimmed h t) I L long-enough log-holds cut.ran (installed-recoverable (trimmed h t) I L (stored_pages e.store) cut.installed)

    working-at : (p : ℕ) → working_pages (mounted k e) p ≡ after h L p
    working-at p = shown.working p ∙ cut.same_pages L p kept.to-logged

    lists_at : Lists (mounted k e).dirty h I L
    lists_at = record {
      numbers = shown.redone.numbers ∙ rising-like (uninstalled (trimmed h t) I L) (uninstalled h I L) L (λ m l. cut.still_dirty m);
      scopes = All-from_get_or (ScopeOf h) (mounted k e).dirty nothing (λ i l.
          let m = (get_or (mounted k e).dirty i nothing).number in
          let sc = scope-at (mounted k e).dirty (trimmed h t) I L shown.redone i l in
          let low = (uninstalled-parts (trimmed h t) I L m (listed-dirty (mounted k e).dirty (trimmed h t) I L shown.redone i l)).0 in
          (λ p. sc.0 p ∙ trimmed-reads h t kept.from_first m p low, λ p. sc.1 p ∙ trimmed-writes h t kept.from_first m p low));
    }

    pub mount-recovered : Recovered h I L (mounted k e)
    mount-recovered = record { passes = shown.well; next = shown.next; shows = working-at; redone = lists_at }

-- ---- images keep their length through redo

abbrev Sized : (ℕ → List ℕ) → Type 0
Sized images = (p : ℕ) → p < 64 → length (images p) ≡ 256

-- the sets that an entry has are those of its body
abbrev EntryScoped : Meaning → Entry → Type 0
EntryScoped k x = k.scope x.body ≡ Ok (x.reads, x.writes)

module _ (k : Meaning) (law : Lawful k) where
  err_ok : (r : Report) (s : Redone) → ◌≡◌ {A = Result Redone Report} (Err r) (Ok s) → ⊥
  err_ok r s h = let z : ◌≡◌ {A = ℕ} 0 1 = cc in omega arith

  ok_same : (x y : Redone) → ◌≡◌ {A = Result Redone Report} (Ok x) (Ok y) → x ≡ y
  ok_same x y h = cc

  written-sized : (x : Entry) (n : ℕ) (new : List ℕ) (images : ℕ → List ℕ) → EntryScoped k x → length new ≡ 224 * size x.writes → Sized images → Sized (written x.writes n new images)
  written-sized x n new images sc ln all p l = go (has x.writes p) refl
    where
      go : (c : Bool) → has x.writes p ≡ c → length (cond c (stamped n (share_of x.writes new p) (images p)) (images p)) ≡ 256
      go true e = stamped-length n (share_of x.writes new p) (images p) (share_length x.writes p new (law.scoped x.body x.reads x.writes sc).writes_pages ln e) (all p l)
      go false e = all p l

  record_sized : (n : ℕ) (x : Entry) (s s' : Redone) → EntryScoped k x → Sized s.images → record_redone k n x s ≡ Ok s' → Sized s'.images
  record_sized n x s s' sc all h = first (is_installed x n s.images) (is_missing x n s.images) h
    where
      outcomes : (y : Result (List ℕ) ℕ) → outcome k x.body x.reads s.images ≡ y → redone_by n x y s ≡ Ok s' → Sized s'.images
      outcomes (Ok new) e r =
          subst (λ (z : Redone). Sized z.images) (ok_same _ s' r) (written-sized x n new s.images sc (law.sized x.body (gathered x.reads s.images) new x.reads x.writes sc e) all)
      outcomes (Err c) e r = absurd (err_ok _ s' r)

      first : (a c : Bool) → cond a (Ok s) (cond c (redone_by n x (outcome k x.body x.reads s.images) s) (Err (report (PartlyInstalled n)))) ≡ Ok s' → Sized s'.images
      first true c r = subst (λ (z : Redone). Sized z.images) (ok_same s s' r) all
      first false true r = outcomes (outcome k x.body x.reads s.images) refl r
      first false false r = absurd (err_ok _ s' r)

  redo-sized : (m : Device) (f i : ℕ) (s s' : Redone) → ((j : ℕ) → j < i → EntryScoped k (entry_at m (f + j))) → Sized s.images → records_redone k m f i s ≡ Ok s' → Sized s'.images
  unfolding records_redone
  redo-sized m f zero s s' sc all h = subst (λ (z : Redone). Sized z.images) (ok_same s s' h) all
  redo-sized m f (suc i) s s' sc all h = go (records_redone k m f i s) (λ z e. redo-sized m f i s z (λ j l. sc j (omega arith)) all e) h
    where
      go : (x : Result Redone Report) → ((z : Redone) → x ≡ Ok z → Sized z.images) → and_then x (record_redone k (f + i) (entry_at m (f + i))) ≡ Ok s' → Sized s'.images
      go (Ok z) ih r = record_sized (f + i) (entry_at m (f + i)) z s' (sc i (omega arith)) (ih z refl) r
      go (Err c) ih r = absurd (err_ok c s' r)

  mounted-by_sized : (e : Ends) (f next : ℕ) (x : Result Redone Report) → ((s : Redone) → x ≡ Ok s → Sized s.images) → Sized (mounted_by e f next x).images
  mounted-by_sized e f next (Ok s) all = all s refl
  mounted-by_sized e f next (Err r) all = λ p l. image-length (replicate 16384 0) p (length-replicate {A = ℕ} 16384 0) l

  unless_ok : (x : Option Report) (y : Result Redone Report) (s : Redone) → unless_fault x y ≡ Ok s → y ≡ Ok s
  unless_ok None y s e = e
  unless_ok (Some r) y s e = absurd (err_ok r s e)

-- ---- the ends that a mount leaves

mounted-ends : (k : Meaning) (e : Ends) → (ends_of (mounted k e) ≡ record { log = powered e.log; store = revived e.store; plan = e.plan }) × ((mounted k e).waiting ≡ [])
mounted-ends k e = short (too_short e.log e.store) (header_in (block_at e.log 0))
  where
    redone : (f next : ℕ) (x : Result Redone Report) → (ends_of (mounted_by e f next x) ≡ record { log = powered e.log; store = revived e.store; plan = e.plan }) × ((mounted_by e f next x).waiting ≡ [])
    redone f next (Ok s) = (refl, refl)
    redone f next (Err r) = (refl, refl)

    short : (c : Bool) (x : Option ℕ) → (ends_of (cond c (mounted_halted e (report TooShort)) (mounted_at k e x)) ≡ record { log = powered e.log; store = revived e.store; plan = e.plan })
        × ((cond c (mounted_halted e (report TooShort)) (mounted_at k e x)).waiting ≡ [])
    short true x = (refl, refl)
    short false (Some f) = redone f (end_of e.log f 128) (recovered_from k e.log (taken e.store.image) f)
    short false None = (refl, refl)

module _ (k : Meaning) (law : Lawful k) (b : Book) (e : Ends) (I : ℕ → Bool) (t : ℕ) (booked : Booked k b) (kept : Kept k b I t e) where
  mounted-is : mounted k e ≡ mounted_by e t (next_logged b) (recovered_from k e.log (taken e.store.image) t)
  mounted-is =
      cond-false (too_short e.log e.store) (mounted_halted e (report TooShort)) (mounted_at k e (header_in (block_at e.log 0))) (long-enough k law b e I t booked kept)
      ∙ ap (mounted_at k e) (header_at k law b e I t booked kept)
      ∙ ap (λ j. mounted_by e t j (recovered_from k e.log (taken e.store.image) t)) (end_at k law b e I t booked kept)

  scoped_at : (i : ℕ) → t ≤ i → i < next_logged b → EntryScoped k (entry_at e.log i)
  scoped_at i a l =
      let f = kept.from_first in
      let w = within k law b e I t booked kept in
      let s = booked.sound (i - b.first) (omega arith) in
      let is : entry_at e.log i ≡ entry_by i (body_at b i) (Ok (s.reads, s.writes)) = (block-at k law b e I t booked kept i a l).says ∙ ap (entry_by i (body_at b i)) s.taken in
      subst (EntryScoped k) (sym is) s.taken

  taken-sized : Sized (taken e.store.image)
  taken-sized p l = ap length (cond-true (ltb p 64) (e.store.image p) [] (lt-ltb p 64 l)) ∙ kept.sized p l

  mounted-sized : Sized (mounted k e).images
  mounted-sized = subst (λ (v : Volume). Sized v.images) (sym mounted-is)
      (mounted-by_sized k law e t (next_logged b) (recovered_from k e.log (taken e.store.image) t) (λ s ok.
      redo-sized k law e.log t (end_of e.log t 128 - t) (record { images = taken e.store.image; ops = [] }) s
      (λ j l. scoped_at (t + j) (omega arith) (let z = end_at k law b e I t booked kept in omega arith))
      taken-sized (unless_ok k law _ _ s ok)))

  -- ---- the logged operations alone

  abbrev b₁ : Book
  b₁ = logged_alone b

  cut-length : length (take b.logged b.bodies) ≡ b.logged
  cut-length = length-take-le b.logged b.bodies booked.survives

  next-is : next_of b₁ ≡ next_logged b
  next-is = ap (λ j. b.first + j) cut-length

  body_same : (i : ℕ) → b.first ≤ i → i < next_logged b → body_at b i ≡ body_at b₁ i
  body_same i a l = sym (get_or-take b.logged b.bodies (i - b.first) [] (omega arith))

  agrees : (i : ℕ) → b.first ≤ i → i < next_logged b → (history_of k b).operation i ≡ (history_of k b₁).operation i
  agrees i a l = ap (operation_of k) (body_same i a l)

  block_same : (i : ℕ) → b.first ≤ i → i < next_logged b → block_for k b i ≡ block_for k b₁ i
  block_same i a l = ap (λ (x : List ℕ). block_of (entry_by i x (k.scope x))) (body_same i a l)

  booked-cut : Booked k b₁
  booked-cut = record {
    from_one = booked.from_one;
    numbered = let s = booked.survives in let n = booked.numbered in let z = next-is in omega arith;
    told = booked.told;
    survives = let z = cut-length in omega arith;
    sound = λ i l. let z = cut-length in let s = booked.survives in
        subst (Sound k) (sym (get_or-take b.logged b.bodies i [] (omega arith))) (booked.sound i (omega arith));
    ran = subst (Ran (history_of k b₁)) (sym next-is)
        (same-ran (history_of k b).start b.first (history_of k b).operation (history_of k b₁).operation (next_logged b) agrees (lost k law b e I t booked kept).ran);
  }

  revived-live : (x : State) → is_short x ≡ false → revive x ≡ Live
  revived-live Live z = refl
  revived-live Dead z = refl
  revived-live Short z = absurd (both_ways true z refl)

  kept-cut : Kept k b₁ I t (record { log = powered e.log; store = revived e.store; plan = e.plan })
  kept-cut = record {
    installed = subst (λ j. Installed (history_of k b₁) I j (stored_pages e.store)) (sym next-is)
        (same-installed (history_of k b).start b.first (history_of k b).operation (history_of k b₁).operation (next_logged b) agrees I (stored_pages e.store) (lost k law b e I t booked kept).installed);
    in_log = kept.in_log;
    from_first = kept.from_first;
    to-logged = kept.to-logged;
    room = kept.room;
    dropped = kept.dropped;
    log = record {
      long = kept.log.long;
      header = kept.log.header;
      records = λ i a l. kept.log.records i a l ∙ block_same i (let f = kept.from_first in omega arith) l;
      older = kept.log.older;
    };
    not_short = ap is_short (revived-live e.store.state kept.not_short);
    sized = kept.sized;
  }

  module _ (recovers : MountRecovers k e) where
    upheld-cut : Upheld k b₁ I t (mounted k e)
    upheld-cut =
        let ends = mounted-ends k e in
        let sh = shown k law b e I t booked kept recovers in
        record {
          log-live = ap (λ (x : Ends). x.log.live) ends.0;
          store-live = ap (λ (x : Ends). x.store.state) ends.0 ∙ revived-live e.store.state kept.not_short;
          working = λ p. working-at k law b e I t booked kept recovers p
              ∙ ap (λ (w : ℕ → Page). w p) (same_after (history_of k b).start b.first (history_of k b).operation (history_of k b₁).operation (next_logged b) agrees (next_logged b) (omega arith))
              ∙ ap (λ j. after (history_of k b₁) j p) (sym next-is);
          whole = mounted-sized;
          lists = subst (λ j. Lists (mounted k e).dirty (history_of k b₁) I j) (sym next-is)
              (same_lists (history_of k b).start b.first (history_of k b).operation (history_of k b₁).operation (next_logged b) agrees (mounted k e).dirty I (lists_at k law b e I t booked kept recovers));
          waiting = subst (λ (ws : List (List ℕ)). Waits (block_for k b₁) (next_of b₁) ws (next_logged b)) (sym ends.1) (sym next-is);
          few = let z : length (mounted k e).waiting ≡ 0 = ap length ends.1 in omega arith;
          first = sh.first;
          next = sh.next ∙ sym next-is;
          room = let z = next-is in let r = kept.room in omega arith;
        }

    mount-keeps : Keeps k b₁ (up (mounted k e))
    mount-keeps = record {
      booked = booked-cut;
      I = I;
      t = t;
      kept = subst (Kept k b₁ I t) (sym (mounted-ends k e).0) kept-cut;
      upheld = λ _. upheld-cut;
    }

pub mount-keeps_all : (k : Meaning) → Lawful k → (b : Book) (e : Ends) → MountRecovers k e → Keeps k b (down e)
    → Keeps k (fed b (mount (answered (length (mounted k e).dirty) (halted_by (mounted k e).status)))) (up (mounted k e))
mount-keeps_all k law b e recovers keeps =
    subst (λ (x : Option Report). Keeps k (fed b (mount (answered (length (mounted k e).dirty) x))) (up (mounted k e)))
    (sym (ap halted_by (mount-recovered k law b e keeps.I keeps.t keeps.booked keeps.kept recovers).passes))
    (mount-keeps k law b e keeps.I keeps.t keeps.booked keeps.kept recovers)
