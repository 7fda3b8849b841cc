-- An accepted format: the book is empty and nothing is installed.
use Rattle.std.proofs.Common.{◌≡◌, ℕ, zero, suc, ◌+◌, ◌-◌, ◌*◌, ◌<◌, ◌≤◌, Bool, true, false, cond, not, eqb, ltb, leb, ◌⊎◌, List, [], ◌∷◌, ◌++◌, map, length, get_or, take, drop, set, replicate, Some, None, Option, sym, refl, ap, ◌∙◌, subst, inl, inr, arith, MatchOption, Err, Ok}
use Rattle.std.proofs.lemmas.Option.{none-some}
use Rattle.std.specs.List.{AllByRecursion}
use Rattle.std.proofs.lemmas.List.{length-set, get_or-set_same, get_or-set_other, length-replicate, take-replicate, drop-replicate, replicate-append-replicate, map-append}
use Rattle.std.proofs.ByRecursion.{All-append}
use Rattle.std.proofs.lemmas.Bool.{both_ways, eqb-false, leb-true, not-false, or_parts, cond-true, cases_eq, ltb-true}
use Rattle.sets.specs.Sets.{has, rising}
use Rattle.sets.proofs.SetLaws.{has-none}
use Rattle.faults.specs.declared.fault.Fault.TheVariants.{BadHeader, TooShort}
use Rattle.faults.specs.Faults.{Report, report}
use Rattle.media.specs.Media.{Device, block_count, block_at, check, powered, Wrote}
use Rattle.media.specs.Plans.{Write, Ran}
use Rattle.media.specs.Plans.Ran.{done, stops, goes}
use Rattle.media.proofs.PlanLaws.{passed}
use Rattle.stores.proofs.LayoutLaws.{every}
use Rattle.stores.specs.Images.{blank, pictured}
use Rattle.stores.specs.Stores.{Store, State, Ending, is_short, Installed, powered as revived, revived as revive, end_fault, end_store, installed}
use Rattle.lives.proofs.StoreFacts.{install_live}
use Rattle.stores.specs.Stores.State.{Live, Dead, Short}
use Rattle.stores.specs.Stores.Ending.{Passes, FailsOld, FailsNew}
use Rattle.kinds.specs.Kinds.{Meaning}
use Rattle.logblocks.specs.Blocks.{header_of}
use Rattle.redo.specs.Histories.{image}
use Rattle.redo.proofs.HistoryLaws.{image-still}
use Rattle.faults.specs.declared.fault.Fault.{Fault}
use Rattle.volume.specs.Statuses.{Status}
use Rattle.volume.specs.Working.{number_of, taken}
use Rattle.volume.specs.LogReading.{last_number}
use Rattle.volume.specs.Volumes.{Ends}
use Rattle.volume.specs.Formatting.{too_short, format_check, blanks, all_pages, blank_images, Begun, Formatted}
use Rattle.volume.specs.Formatting.Begun.{blanking, installing, heading}
use Rattle.volume.specs.Surviving.{page_of, stored_pages}
use Rattle.lives.specs.Books.{empty_book, history_of}
use Rattle.lives.specs.Lives.State.{down}
use Rattle.lives.proofs.Keeping.{Keeps, Kept, Booked, LogOf, block_for}
use Rattle.lives.proofs.BlockFacts.{header-length}

-- a well volume is not halted
pub well-halted : (f : Fault) → ◌≡◌ {A = Status} (Ok tt) (Err f) → ⊥
well-halted f h = let z : ◌≡◌ {A = ℕ} 0 1 = cc in omega arith

pub check-none : (bad : Bool) (r : Report) (rest : Option Report) → check bad r rest ≡ None → (bad ≡ false) × (rest ≡ None)
check-none true r rest e = absurd (none-some r (sym e))
check-none false r rest e = (refl, e)

-- ---- the log

-- one of the writes is of block b
abbrev WritesBlock : List Write → ℕ → Type 0
WritesBlock [] b = ⊥
WritesBlock (w ∷ ws) b = (w.block ≡ b) ⊎ WritesBlock ws b

abbrev Blanking : Write → Type 0
Blanking w = (w.block < 129) × (w.bytes ≡ blank)

blank-length : length blank ≡ 256
blank-length = length-replicate {A = ℕ} 256 0

blank-writes : {m m' : Device} {ws : List Write} {o : Option Report} → Ran m ws o m' → o ≡ None → AllByRecursion Blanking ws → 129 ≤ block_count m
    → (129 ≤ block_count m') × ((b : ℕ) → b < 129 → (block_at m b ≡ blank) ⊎ WritesBlock ws b → block_at m' b ≡ blank)
blank-writes (done {m}) e all long = (long, λ b l. λ x. elim x [ inl is ↦ is | inr none ↦ absurd none ])
blank-writes (stops f w) e all long = absurd (none-some _ (sym e))
blank-writes (goes {m} {m₁} {m'} {w} {ws} f by rest) e all long =
    let p = passed f m m₁ w (omega (arith, all.0.0)) (ap length all.0.1 ∙ blank-length) by in
    let bl : m₁.blocks ≡ set m.blocks w.block w.bytes = ap (λ (d : Device). d.blocks) p.1 in
    let len : block_count m₁ ≡ block_count m = ap length bl ∙ length-set m.blocks w.block w.bytes in
    let r = blank-writes rest e all.1 (omega arith) in
    (r.0, λ b l x. r.1 b l (step b l bl all.0 x))
  where
    step : (b : ℕ) → b < 129 → m₁.blocks ≡ set m.blocks w.block w.bytes → Blanking w → (block_at m b ≡ blank) ⊎ ((w.block ≡ b) ⊎ WritesBlock ws b) → (block_at m₁ b ≡ blank) ⊎ WritesBlock ws b
    step b l bl is x = elim (cases_eq b w.block) [
      | inl same ↦ inl (ap (λ (bs : List (List ℕ)). get_or bs b []) bl ∙ ap (λ j. get_or (set m.blocks w.block w.bytes) j []) same
          ∙ get_or-set_same m.blocks w.block w.bytes [] (omega (arith, is.0)) ∙ is.1)
      | inr other ↦ elim x [
        | inl was ↦ inl (ap (λ (bs : List (List ℕ)). get_or bs b []) bl ∙ get_or-set_other m.blocks w.block b w.bytes [] other ∙ was)
        | inr y ↦ elim y [ inl here ↦ absurd (other (sym here)) | inr later ↦ inr later ]
      ]
    ]

abbrev blank_at : ℕ → Write
blank_at b = record { block = b; bytes = blank }

writes-left : (ws vs : List Write) (b : ℕ) → WritesBlock ws b → WritesBlock (ws ++ vs) b
writes-left [] vs b x = absurd x
writes-left (w ∷ ws) vs b (inl here) = inl here
writes-left (w ∷ ws) vs b (inr later) = inr (writes-left ws vs b later)

writes-right : (ws : List Write) (w : Write) → WritesBlock (ws ++ w ∷ []) w.block
writes-right [] w = inl refl
writes-right (v ∷ ws) w = inr (writes-right ws w)

blanks-to : (n : ℕ) → n ≤ 129 → AllByRecursion Blanking (map blank_at (rising (λ _. true) n)) × ((b : ℕ) → b < n → WritesBlock (map blank_at (rising (λ _. true) n)) b)
unfolding rising
blanks-to zero l = (tt, λ b x. absurd (omega arith))
blanks-to (suc n) l =
    let ih = blanks-to n (omega arith) in
    let e : map blank_at (rising (λ _. true) (suc n)) ≡ map blank_at (rising (λ _. true) n) ++ blank_at n ∷ [] = map-append blank_at (rising (λ _. true) n) (n ∷ []) in (
      subst (AllByRecursion Blanking) (sym e) (All-append Blanking (map blank_at (rising (λ _. true) n)) (blank_at n ∷ []) ih.0 ((omega arith, refl), tt)),
      λ b x. subst (λ (ws : List Write). WritesBlock ws b) (sym e) (elim (cases_eq b n) [
        | inl same ↦ subst (WritesBlock (map blank_at (rising (λ _. true) n) ++ blank_at n ∷ [])) (sym same) (writes-right (map blank_at (rising (λ _. true) n)) (blank_at n))
        | inr other ↦ writes-left (map blank_at (rising (λ _. true) n)) (blank_at n ∷ []) b (ih.1 b (omega arith))
      ]),
    )

-- the log after an accepted format
blank-log : (g : ℕ → List ℕ) (f : ℕ) (m₀ m m' : Device) → 1 ≤ f → 129 ≤ block_count m₀ → Ran m₀ blanks None m → Wrote m 0 (header_of f) None m' → LogOf g f f m'
blank-log g f m₀ m m' one long ran wrote =
    let two = blanks-to 129 (omega arith) in
    let bl = blank-writes ran refl two.0 long in
    let w : Write = record { block = 0; bytes = header_of f } in
    let p = passed wrote.0 m m' w (omega (arith, bl.0)) (header-length f) wrote.1 in
    let bs : m'.blocks ≡ set m.blocks 0 (header_of f) = ap (λ (d : Device). d.blocks) p.1 in
    record {
      long = let e : block_count m' ≡ block_count m = ap length bs ∙ length-set m.blocks 0 (header_of f) in omega (arith, bl.0);
      header = ap (λ (xs : List (List ℕ)). get_or xs 0 []) bs ∙ get_or-set_same m.blocks 0 (header_of f) [] (omega (arith, bl.0));
      records = λ i a b. absurd (omega arith);
      older = λ b a l.
          let e : block_at m' b ≡ blank = ap (λ (xs : List (List ℕ)). get_or xs b []) bs ∙ get_or-set_other m.blocks 0 b (header_of f) [] (λ z. omega arith) ∙ bl.1 b l (inr (two.1 b l)) in
          let z : number_of (block_at m' b) ≡ 0 = ap number_of e in
          omega arith;
    }

-- ---- the store

all_there : (p : ℕ) → p < 64 → has all_pages p ≡ true
all_there p l = every p l

blank-pictured : (p : ℕ) → p < 64 → pictured blank_images p ≡ blank
blank-pictured p l = go 256 16384 228 28 (256 * p) refl refl refl refl (omega arith)
  where
    go : (a n c d at : ℕ) → a ≡ 256 → n ≡ 16384 → c ≡ 228 → d ≡ 28 → at + a ≤ n → ◌++◌ {A = ℕ} (take c (take a (drop at (replicate n 0)))) (replicate d 0) ≡ replicate a 0
    go a n c d at ea en ec ed le =
        ap (λ (xs : List ℕ). take c xs ++ replicate d 0) (ap (take a) (drop-replicate at n 0) ∙ take-replicate a (n - at) 0 (omega arith))
        ∙ ap (λ (xs : List ℕ). xs ++ replicate d 0) (take-replicate c a 0 (omega arith))
        ∙ replicate-append-replicate c d 0
        ∙ ap (λ j. replicate j 0) (let s : c + d ≡ a = omega arith in s)

-- an accepted install of all pages
accepted-install : (s s' : Store) (plan : List ℕ) (set : ℕ) (images : List ℕ) → is_short s.state ≡ false → length images ≡ 16384 → (set ≡ 0 → ⊥)
    → Installed (revived s) plan set images None s' → (s'.state ≡ Live) × ((p : ℕ) → s'.image p ≡ installed set images s.image p)
accepted-install s s' plan set images not_short long some inst =
    let two = install_live (revived s) s' plan set images None (live s.state refl) long some inst in
    ends inst.0 two.0 two.1
  where
    live : (x : State) → s.state ≡ x → (revived s).state ≡ Live
    live Live e = ap revive e
    live Dead e = ap revive e
    live Short e = absurd (both_ways (is_short s.state) not_short (ap is_short e))

    ends : (x : Ending) → None ≡ end_fault x plan → s' ≡ end_store x set images (revived s) → (s'.state ≡ Live) × ((p : ℕ) → s'.image p ≡ installed set images s.image p)
    ends Passes e a = (ap (λ (z : Store). z.state) a, λ p. ap (λ (z : Store). z.image p) a)
    ends (FailsOld i) e a = absurd (none-some _ e)
    ends (FailsNew i) e a = absurd (none-some _ e)

all-some : all_pages ≡ 0 → ⊥
all-some e = both_ways (has all_pages 0) (ap (λ s. has s 0) e ∙ has-none 0) (every 0 (omega arith))

blank-store : (s s' : Store) (plan : List ℕ) → is_short s.state ≡ false → Installed (revived s) plan all_pages blank_images None s'
    → (s'.state ≡ Live) × ((p : ℕ) → p < 64 → s'.image p ≡ blank)
blank-store s s' plan not_short inst =
    let two = accepted-install s s' plan all_pages blank_images not_short (length-replicate {A = ℕ} 16384 0) all-some inst in
    (two.0, λ p l. two.1 p ∙ cond-true (has all_pages p) (pictured blank_images p) (s.image p) (every p l) ∙ blank-pictured p l)

blank-pages : (s : Store) → ((p : ℕ) → p < 64 → s.image p ≡ blank) → (p : ℕ) → stored_pages s p ≡ page_of (taken (λ _. blank) p)
blank-pages s all p = go (ltb p 64) refl
  where
    go : (b : Bool) → ltb p 64 ≡ b → page_of (cond b (s.image p) []) ≡ page_of (cond b blank [])
    go true e = ap page_of (all p (ltb-true p 64 e))
    go false e = refl

-- ---- the whole

module _ (k : Meaning) (f : ℕ) (one : 1 ≤ f) (few : f ≤ last_number) where
  start-below : (p : ℕ) → (page_of (taken (λ _. blank) p)).number < f
  start-below p = go (ltb p 64)
    where
      go : (b : Bool) → number_of (cond b blank []) < f
      go true = omega arith
      go false = omega arith

  empty_booked : Booked k (empty_book f)
  empty_booked = record {
    from_one = one;
    numbered = omega arith;
    told = omega arith;
    survives = omega arith;
    sound = λ i l. absurd (omega arith);
    ran = record { starts_below = start-below; well_formed = λ m g l. absurd (omega arith); accepted = λ m g l. absurd (omega arith) };
  }

  start-image : (p : ℕ) → image (history_of k (empty_book f)) (λ _. false) f p ≡ page_of (taken (λ _. blank) p)
  unfolding image
  start-image p = image-still (history_of k (empty_book f)) (λ _. false) 0 f p (omega arith) (λ m a l w. refl)

  empty_kept : (m : Device) (s : Store) (plan : ℕ → List ℕ) → LogOf (block_for k (empty_book f)) f f m → (s.state ≡ Live) → ((p : ℕ) → p < 64 → s.image p ≡ blank)
      → Kept k (empty_book f) (λ _. false) f (record { log = m; store = s; plan = plan })
  empty_kept m s plan log live all =
      let z : f + 0 ≡ f = omega arith in
      record {
        installed = record {
          were_run = λ m i. absurd (both_ways false refl i);
          is_prefix = λ O P x a b i w t. absurd (both_ways false refl i);
          images = λ p. blank-pages s all p ∙ sym (ap (λ j. image (history_of k (empty_book f)) (λ _. false) j p) z ∙ start-image p);
        };
        in_log = λ m i. absurd (both_ways false refl i);
        from_first = omega arith;
        to-logged = omega arith;
        room = omega arith;
        dropped = λ m a b. absurd (omega arith);
        log = rw z log;
        not_short = ap is_short live;
        sized = λ p l. ap length (all p l) ∙ blank-length;
      }

begun-keeps : (k : Meaning) (f : ℕ) {e e' : Ends} {o : Option Report} → f ≤ last_number → o ≡ None → 1 ≤ f → 129 ≤ block_count e.log → is_short e.store.state ≡ false
    → Begun f e o e' → Keeps k (empty_book f) (down e')
begun-keeps k f few z one long not_short (blanking ran) = absurd (none-some _ (sym z))
begun-keeps k f few z one long not_short (installing ran inst) = absurd (none-some _ (sym z))
begun-keeps k f few z one long not_short (heading {e} {m} {m'} {s} {plan} {o} ran inst wrote) =
    let two = blank-store e.store s (e.plan all_pages) not_short inst in
    record {
      booked = empty_booked k f one few;
      I = λ _. false;
      t = f;
      kept = empty_kept k f one few m' s plan (blank-log (block_for k (empty_book f)) f (powered e.log) m m' one long ran (subst (λ (x : Option Report). Wrote m 0 (header_of f) x m') z wrote)) two.0 two.1;
      upheld = tt;
    }

pub format-keeps : (k : Meaning) (f : ℕ) (e e' : Ends) → f ≤ last_number → Formatted f e None e' → Keeps k (empty_book f) (down e')
format-keeps k f e e' few form = checks (format_check f e) refl form
  where
    checks : (c : Option Report) → format_check f e ≡ c → MatchOption c (Begun f e None e') (λ r. (None ≡ Some r) × (e' ≡ e)) → Keeps k (empty_book f) (down e')
    checks None ok b =
        let one = check-none (eqb f 0) (report BadHeader) (check (too_short e.log e.store) (report TooShort) None) ok in
        let two = or_parts (not (leb 129 (block_count e.log))) (is_short e.store.state) (check-none (too_short e.log e.store) (report TooShort) None one.1).0 in
        begun-keeps k f few refl (let ne = eqb-false f 0 one.0 in nonzero f ne) (leb-true 129 (block_count e.log) (not-false (leb 129 (block_count e.log)) two.0)) two.1 b
      where
        nonzero : (n : ℕ) → (n ≡ 0 → ⊥) → 1 ≤ n
        nonzero zero ne = absurd (ne refl)
        nonzero (suc n) ne = omega arith
    checks (Some r) ok b = absurd (none-some r b.0)
