-- A run: the book and the volume keep together.
use Rattle.std.proofs.Common.{◌≡◌, ℕ, suc, ◌+◌, ◌-◌, ◌*◌, ◌^◌, ◌<◌, ◌≤◌, Bool, true, false, cond, ◌&&◌, eqb, ltb, leb, List, [], ◌∷◌, ◌++◌, length, get_or, take, drop, Some, None, Ok, Err, Option, Result, sym, refl, ap, ◌∙◌, subst, ap₂, inl, inr, arith}
use Rattle.std.proofs.lemmas.Option.{none-some}
use mathlib.Core.Path.{fun_ext}
use Rattle.std.specs.List.{flat_map}
use Rattle.std.proofs.lemmas.List.{length_push, length-append, length-take, length-drop, length-map, get_or_append_left, get_or_push, take_at, drop_at}
use Rattle.std.proofs.lemmas.Bool.{both_ways, cases_eq, cases_Bool, cond-true, cond-false, lt-ltb, ltb-false, leb-false, eqb-false, le-leb}
use Rattle.sets.specs.Sets.{has, count, pages, size}
use Rattle.sets.specs.Words.{number, bytes_of}
use Rattle.sets.proofs.SetLaws.{has_within, rising-count}
use Rattle.sets.proofs.WordLaws.{bytes-length, number-bytes}
use Rattle.faults.specs.declared.fault.Fault.TheVariants.{WrongLength, WaitingFull, LogFull, NumbersSpent}
use Rattle.faults.specs.Faults.{Report, report}
use Rattle.kinds.specs.Kinds.{Meaning, Lawful, Scoped}
use Rattle.logblocks.specs.Blocks.{block_of}
use Rattle.redo.specs.Histories.{Page, Operation, History, writes, contents_of, effect_on, run, after, WellFormed, Ran}
use Rattle.redo.specs.Prefixes.{uninstalled, Installed}
use Rattle.redo.specs.Installation.{extended}
use Rattle.redo.specs.Theorems.{AfterRun}
use Rattle.redo.proofs.HistoryLaws.{after-suc, run-written, run-unwritten}
use Rattle.redo.proofs.InstallLaws.{uninstalled-parts}
use Rattle.redo.proofs.KeepLaws.{run-keeps, extended-after, same_operation, new-operation}
use Rattle.graph.specs.declared.op.Op.{Op}
use Rattle.graph.specs.Listing.{Lists}
use Rattle.graph.proofs.ListLaws.{listed-run}
use Rattle.volume.specs.Statuses.{Status}
use Rattle.volume.specs.Working.{number_of, contents_in, gathered, share_of, stamped, written}
use Rattle.volume.specs.LogReading.{last_number}
use Rattle.volume.specs.Performing.{outcome}
use Rattle.volume.specs.Volumes.{Volume, or_else, unless_halted, room_fault, scope_fault, admit_fault, pages_fault, with_operation, entered, enter_fault, enter_after, unless_refused, run_fault, after_run}
use Rattle.volume.specs.Surviving.{page_of, stored_pages, shares, operation_by, operation_of}
use Rattle.volume.proofs.WorkingLaws.{room-more}
use Rattle.lives.specs.Books.{Book, next_of, next_logged, body_at, history_of, with_run, fed}
use Rattle.lives.specs.Books.Event.{run as ran_event}
use Rattle.lives.specs.Lives.{ends_of, answered}
use Rattle.lives.specs.Lives.State.{up}
use Rattle.lives.proofs.Keeping.{Keeps, Kept, Upheld, Booked, Sound, Waits, entry_by, block_for}
use Rattle.lives.proofs.AgreeLaws.{same_after, same-ran, same-installed, same_lists}
use Rattle.lives.proofs.FormatLaws.{check-none}
use Rattle.lives.proofs.ListFacts.{waits-like, waits-push, count-from}

-- ---- an image with a new number and new contents

pub stamped-page : (n : ℕ) (c image : List ℕ) → n < 2 ^ 32 → length c ≡ 224 → page_of (stamped n c image) ≡ record { contents = c; number = n }
stamped-page n c image small lc = λ i. record { contents = mid i; number = num i }
  where
    mid : contents_in (stamped n c image) ≡ c
    mid = ap (take 224) (drop_at (bytes_of 4 n) (c ++ drop 228 image) 4 (bytes-length 4 n)) ∙ take_at c (drop 228 image) 224 lc

    num : number_of (stamped n c image) ≡ n
    num = ap number (take_at (bytes_of 4 n) (c ++ drop 228 image) 4 (bytes-length 4 n)) ∙ number-bytes 4 n small

pub stamped-length : (n : ℕ) (c image : List ℕ) → length c ≡ 224 → length image ≡ 256 → length (stamped n c image) ≡ 256
stamped-length n c image lc li = let b = bytes-length 4 n in simp (length-append, length-drop) (omega arith)

-- the new contents of a written page
pub share_length : (w p : ℕ) (new : List ℕ) → w < 2 ^ 64 → length new ≡ 224 * size w → has w p ≡ true → length (share_of w new p) ≡ 224
share_length w p new small ln in' =
    let r = room-more w p (size w) (has_within w p small in') (omega arith) in' in
    simp (length-take, length-drop) (omega arith)

-- ---- an operation that is taken: everything by itself

-- every body that the kind takes is a well_formed operation
abbrev pub AllWellFormed : Meaning → Type 0
AllWellFormed k = (body : List ℕ) (r w : ℕ) → k.scope body ≡ Ok (r, w) → WellFormed (operation_of k body)

module _ (k : Meaning) (law : Lawful k) (wf : AllWellFormed k) (b : Book) (v : Volume) (body : List ℕ) (r w : ℕ) (new : List ℕ) (I : ℕ → Bool) (t : ℕ)
    (booked : Booked k b) (kept : Kept k b I t (ends_of v)) (upheld : Upheld k b I t v)
    (short : length body ≤ 232) (scope : k.scope body ≡ Ok (r, w)) (few : length v.waiting < 16) (free : v.next - v.first < 128) (left : v.next ≡ last_number → ⊥)
    (out : outcome k body r v.images ≡ Ok new) where
  abbrev b' : Book
  b' = with_run b body

  abbrev n : ℕ
  n = next_of b

  abbrev h : History
  h = history_of k b

  abbrev op : Operation
  op = operation_of k body

  one_more : next_of b' ≡ suc n
  one_more = let l = length_push b.bodies body in omega arith

  body-old : (m : ℕ) → b.first ≤ m → m < n → body_at b m ≡ body_at b' m
  body-old m g l = sym (get_or_append_left b.bodies (body ∷ []) [] (m - b.first) (omega arith))

  body_new : body_at b' n ≡ body
  body_new = get_or_push b.bodies body [] (n - b.first) (omega arith)

  agrees : (m : ℕ) → b.first ≤ m → m < suc n → (extended h n op).operation m ≡ (history_of k b').operation m
  agrees m g l = elim (cases_eq m n) [
    | inl same ↦ ap (extended h n op).operation same ∙ new-operation h n op ∙ ap (operation_of k) (sym body_new ∙ ap (body_at b') (sym same))
    | inr other ↦ same_operation h n op m (omega arith) ∙ ap (operation_of k) (body-old m g (omega arith))
  ]

  op-is : op ≡ operation_by k body (Ok (r, w))
  op-is = ap (operation_by k body) scope

  read_same : contents_of (after h n) ≡ (λ p. contents_in (v.images p))
  read_same = fun_ext (λ p. ap (λ (q : Page). q.contents) (sym (upheld.working p)))

  effect_is : op.effect (contents_of (after h n)) ≡ Some (share_of w new)
  effect_is =
      ap (λ (x : Operation). x.effect (contents_of (after h n))) op-is
      ∙ ap (λ (c : ℕ → List ℕ). shares w (k.effect body (flat_map c (pages r)))) read_same
      ∙ ap (shares w) out

  runs : AfterRun h I n (stored_pages v.store) op
  runs = run-keeps h I n (stored_pages v.store) op (share_of w new) booked.ran kept.installed (omega arith) (wf body r w scope) effect_is

  sc : Scoped k.limit r w
  sc = law.scoped body r w scope

  small : n < 2 ^ 32
  small = let l = booked.numbered in omega arith

  next-is : v.next ≡ n
  next-is = upheld.next

  new-length : length new ≡ 224 * size w
  new-length = law.sized body (gathered r v.images) new r w scope out

  writes-is : (p : ℕ) → writes (extended h n op) n p ≡ has w p
  writes-is p = ap₂ (λ (c : Bool) (x : Operation). c && x.writes p) (le-leb b.first n (omega arith)) (new-operation h n op ∙ op-is)

  after_is : after (history_of k b') (suc n) ≡ run (extended h n op) n (after h n)
  after_is =
      sym (same_after h.start b.first (extended h n op).operation (history_of k b').operation (suc n) agrees (suc n) (omega arith))
      ∙ after-suc (extended h n op) n ∙ ap (run (extended h n op) n) (extended-after h n op n (omega arith))

  effect-there : effect_on (extended h n op) n (after h n) ≡ Some (share_of w new)
  effect-there = ap (λ (x : Operation). x.effect (contents_of (after h n))) (new-operation h n op) ∙ effect_is

  working-at : (p : ℕ) → page_of (written w v.next new v.images p) ≡ after (history_of k b') (suc n) p
  working-at p = go (has w p) refl ∙ sym (ap (λ (x : ℕ → Page). x p) after_is)
    where
      go : (c : Bool) → has w p ≡ c → page_of (written w v.next new v.images p) ≡ run (extended h n op) n (after h n) p
      go true e =
          ap page_of (cond-true (has w p) (stamped v.next (share_of w new p) (v.images p)) (v.images p) e)
          ∙ ap (λ j. page_of (stamped j (share_of w new p) (v.images p))) next-is
          ∙ stamped-page n (share_of w new p) (v.images p) small (share_length w p new sc.writes_pages new-length e)
          ∙ sym (run-written (extended h n op) n p (after h n) (share_of w new) (writes-is p ∙ e) effect-there)
      go false e =
          ap page_of (cond-false (has w p) (stamped v.next (share_of w new p) (v.images p)) (v.images p) e)
          ∙ upheld.working p
          ∙ sym (run-unwritten (extended h n op) n p (after h n) (writes-is p ∙ e))

  whole-at : (p : ℕ) → p < 64 → length (written w v.next new v.images p) ≡ 256
  whole-at p l = go (has w p) refl
    where
      go : (c : Bool) → has w p ≡ c → length (cond c (stamped v.next (share_of w new p) (v.images p)) (v.images p)) ≡ 256
      go true e = stamped-length v.next (share_of w new p) (v.images p) (share_length w p new sc.writes_pages new-length e) (upheld.whole p l)
      go false e = upheld.whole p l

  not_yet : I n ≡ false
  not_yet = elim (cases_Bool (I n)) [ inl i ↦ absurd (omega (arith, kept.installed.were_run n i)) | inr o ↦ o ]

  -- there is room for one more dirty operation
  dirty-few : length v.dirty < 128
  dirty-few =
      let same : length v.dirty ≡ count (uninstalled h I n) n = sym (length-map v.dirty (λ (o : Op). o.number)) ∙ ap length upheld.lists.numbers ∙ rising-count (uninstalled h I n) n in
      let c = count-from (uninstalled h I n) t n none in
      let f = upheld.first in
      omega (arith, same, c, next-is)
    where
      none : (m : ℕ) → m < t → uninstalled h I n m ≡ false
      none m l = elim (cases_Bool (uninstalled h I n m)) [
        | inl d ↦ let p = uninstalled-parts h I n m d in absurd (both_ways (I m) p.2 (kept.dropped m p.0 l))
        | inr o ↦ o
      ]

  abbrev new-op : Op
  new-op = record { number = v.next; reads = r; writes = w }

  lists_at : Lists (with_operation body r w new v).dirty (history_of k b') I (suc n)
  lists_at =
      subst (λ (ops : List Op). Lists ops (history_of k b') I (suc n)) (sym (cond-true (ltb (length v.dirty) 128) (v.dirty ++ new-op ∷ []) v.dirty (lt-ltb (length v.dirty) 128 dirty-few)))
      (same_lists h.start b.first (extended h n op).operation (history_of k b').operation (suc n) agrees (v.dirty ++ new-op ∷ []) I
      (listed-run v.dirty h I n new-op op upheld.lists (omega arith) not_yet next-is
      (λ p. ap (λ (x : Operation). x.reads p) (sym op-is)) (λ p. ap (λ (x : Operation). x.writes p) (sym op-is))))

  block_new : block_of (record { number = v.next; reads = r; writes = w; body = body }) ≡ block_for k b' n
  block_new = ap (λ j. block_of (record { number = j; reads = r; writes = w; body = body })) next-is ∙ ap (λ (x : Result (ℕ × ℕ) ℕ). block_of (entry_by n body x)) (sym scope)
      ∙ ap (λ (x : List ℕ). block_of (entry_by n x (k.scope x))) (sym body_new)

  block-old : (m : ℕ) → b.first ≤ m → m < n → block_for k b m ≡ block_for k b' m
  block-old m g l = ap (λ (x : List ℕ). block_of (entry_by m x (k.scope x))) (body-old m g l)

  waiting-at : Waits (block_for k b') (suc n) (with_operation body r w new v).waiting (next_logged b)
  waiting-at =
      let blk = block_of (record { number = v.next; reads = r; writes = w; body = body }) in
      let old = (waits-like (block_for k b) (block_for k b') n v.waiting (next_logged b) (λ i g l. block-old i (omega arith) l) (let s = booked.survives in omega arith) upheld.waiting).0 in
      subst (λ (ws : List (List ℕ)). Waits (block_for k b') (suc n) ws (next_logged b)) (sym (cond-true (ltb (length v.waiting) 16) (v.waiting ++ blk ∷ []) v.waiting (lt-ltb (length v.waiting) 16 few)))
      (waits-push (block_for k b') n v.waiting (next_logged b) blk block_new old)

  few-at : length (with_operation body r w new v).waiting ≤ 16
  few-at =
      let blk = block_of (record { number = v.next; reads = r; writes = w; body = body }) in
      let e : length (with_operation body r w new v).waiting ≡ length v.waiting + 1 = ap length (cond-true (ltb (length v.waiting) 16) (v.waiting ++ blk ∷ []) v.waiting (lt-ltb (length v.waiting) 16 few)) ∙ length_push v.waiting blk in
      omega arith

  sound-at : (i : ℕ) → i < length (b.bodies ++ body ∷ []) → Sound k (get_or (b.bodies ++ body ∷ []) i [])
  sound-at i l = elim (cases_eq i (length b.bodies)) [
    | inl same ↦ subst (Sound k) (sym (get_or_push b.bodies body [] i (sym same))) (record { short = short; reads = r; writes = w; taken = scope })
    | inr other ↦ let e = length_push b.bodies body in
        subst (Sound k) (sym (get_or_append_left b.bodies (body ∷ []) [] i (omega arith))) (booked.sound i (omega arith))
  ]

  booked-at : Booked k b'
  booked-at = record {
    from_one = booked.from_one;
    numbered = let l = booked.numbered in let o = one_more in let e = next-is in ne_le n (next_of b') last_number l o (λ z. left (next-is ∙ z));
    told = booked.told;
    survives = let s = booked.survives in let e = length_push b.bodies body in omega arith;
    sound = sound-at;
    ran = subst (λ j. Ran (history_of k b') j) (sym one_more) (same-ran h.start b.first (extended h n op).operation (history_of k b').operation (suc n) agrees runs.ran);
  }
    where
      ne_le : (a c z : ℕ) → a ≤ z → c ≡ suc a → (a ≡ z → ⊥) → c ≤ z
      ne_le a c z l e ne = elim (cases_eq a z) [ inl s ↦ absurd (ne s) | inr o ↦ omega arith ]

  kept_at : Kept k b' I t (ends_of v)
  kept_at = record {
    installed = subst (λ j. Installed (history_of k b') I j (stored_pages v.store)) (sym one_more)
        (same-installed h.start b.first (extended h n op).operation (history_of k b').operation (suc n) agrees I (stored_pages v.store) runs.installed);
    in_log = kept.in_log;
    from_first = kept.from_first;
    to-logged = kept.to-logged;
    room = kept.room;
    dropped = kept.dropped;
    log = record {
      long = kept.log.long;
      header = kept.log.header;
      records = λ i g l. kept.log.records i g l ∙ block-old i (let f = kept.from_first in omega arith) (let s = booked.survives in omega arith);
      older = kept.log.older;
    };
    not_short = kept.not_short;
    sized = kept.sized;
  }

  upheld-at : Upheld k b' I t (with_operation body r w new v)
  upheld-at = record {
    log-live = upheld.log-live;
    store-live = upheld.store-live;
    working = λ p. working-at p ∙ ap (λ j. after (history_of k b') j p) (sym one_more);
    whole = whole-at;
    lists = subst (λ j. Lists (with_operation body r w new v).dirty (history_of k b') I j) (sym one_more) lists_at;
    waiting = subst (λ j. Waits (block_for k b') j (with_operation body r w new v).waiting (next_logged b)) (sym one_more) waiting-at;
    few = few-at;
    first = upheld.first;
    next = let e = next-is in let o = one_more in omega arith;
    room = let e = next-is in let o = one_more in let f = upheld.first in omega arith;
  }

  taken-keeps : Keeps k b' (up (with_operation body r w new v))
  taken-keeps = record { booked = booked-at; I = I; t = t; kept = kept_at; upheld = λ well. upheld-at }

-- ---- the checks

unless-none : (s : Status) (y : Option Report) → unless_halted s y ≡ None → (s ≡ Ok tt) × (y ≡ None)
unless-none (Err f) y e = absurd (none-some (report f) (sym e))
unless-none (Ok x) y e = (refl, e)

pub run-keeps_all : (k : Meaning) → Lawful k → AllWellFormed k → (b : Book) (v : Volume) (body : List ℕ) → Keeps k b (up v)
    → Keeps k (fed b (ran_event body (answered v.next (run_fault k v body)))) (up (after_run k v body))
run-keeps_all k law wf b v body keeps = admits (admit_fault k v body) refl
  where
    takes : (r w : ℕ) → k.scope body ≡ Ok (r, w) → v.status ≡ Ok tt → length body ≤ 232 → room_fault v ≡ None → (x : Result (List ℕ) ℕ) → outcome k body r v.images ≡ x
        → Keeps k (fed b (ran_event body (answered v.next (pages_fault x)))) (up (entered x body r w v))
    takes r w scope well short room (Ok new) out =
        let r1 = check-none (leb 16 (length v.waiting)) (report WaitingFull) _ room in
        let r2 = check-none (leb 128 (v.next - v.first)) (report LogFull) _ r1.1 in
        let r3 = check-none (eqb v.next last_number) (report (NumbersSpent v.next)) None r2.1 in
        taken-keeps k law wf b v body r w new keeps.I keeps.t keeps.booked keeps.kept (keeps.upheld well) short scope
        (leb-false 16 (length v.waiting) r1.0) (leb-false 128 (v.next - v.first) r2.0) (eqb-false v.next last_number r3.0) out
    takes r w scope well short room (Err c) out = keeps

    scopes : (s : Result (ℕ × ℕ) ℕ) → k.scope body ≡ s → v.status ≡ Ok tt → length body ≤ 232 → scope_fault v s ≡ None
        → Keeps k (fed b (ran_event body (answered v.next (enter_fault k v body s)))) (up (enter_after k v body s))
    scopes (Ok (r, w)) scope well short room = takes r w scope well short room (outcome k body r v.images) refl
    scopes (Err c) scope well short room = absurd (none-some _ (sym room))

    admits : (a : Option Report) → admit_fault k v body ≡ a
        → Keeps k (fed b (ran_event body (answered v.next (or_else a (enter_fault k v body (k.scope body)))))) (up (unless_refused a v (enter_after k v body (k.scope body))))
    admits None ok =
        let one = unless-none v.status _ ok in
        let two = check-none (ltb 232 (length body)) (report (WrongLength (length body))) (scope_fault v (k.scope body)) one.1 in
        scopes (k.scope body) refl one.0 (ltb-false 232 (length body) two.0) two.1
    admits (Some r) ok = keeps
