-- The tree kind is a kind.
use Rattle.std.specs.Prelude.{◌≡◌, ℕ, zero, suc, ◌+◌, ◌-◌, ◌*◌, ◌/◌, ◌<◌, ◌≤◌, max, Bool, true, false, cond, ◌&&◌, ◌||◌, List, [], ◌∷◌, ◌++◌, length, take, drop, replicate, Some, None, Ok, Err, Option, Result, ◌==◌, ◌≢◌, nat_le, slice_index, refl}
use Rattle.std.proofs.Common.{sym, ap, subst, ◌∙◌, arith}
use Rattle.std.proofs.ByRecursion.{All-take, All-drop, All-append}
use Rattle.std.proofs.lemmas.List.{length-append, length-take, length-drop, length-replicate, length-take-le, take_all}
use Rattle.std.proofs.lemmas.Bool.{cond-true, cond-false, and_parts, eqb-true, leb-true, ne_eqb}
use Rattle.sets.specs.Sets.{size}
use Rattle.sets.specs.Words.{bytes_of}
use Rattle.kinds.specs.Kinds.{Bytes, Scoped, Lawful, within, reply}
use Rattle.kinds.specs.PageSetLaws.{size-only, size-both}
use Rattle.tree.specs.declared.step.Step.{Step}
use Rattle.tree.specs.declared.step.Step.TheVariants.{Insert, Lower, Upper, Cut, Grow}
use Rattle.tree.specs.Orders.{KeyOrdering, TotalOrder}
use Rattle.tree.specs.Nodes.{Entry, mark, count, entries, entry_bytes, entries_bytes, put, renew, rising, absent, well_formed, leaf_form, full_leaf, root_form, middle_key}
use Rattle.tree.specs.Steps.{cut_form, blank, half, upper, parse, sets, change, scope_by, effect_by, tree_meaning}
use Rattle.tree.specs.NodeLaws.{put-length, length-entries_of}
use Rattle.tree.specs.StepLaws.{Good, parse-good, step-scoped}

pub full_count : (o : KeyOrdering) (c : List ℕ) → full_leaf o c ≡ true → count c ≡ 26
full_count o c h = eqb-true (count c) 26 (and_parts (count c == 26) (leaf_form o c) h).0

-- a full leaf's upper half is its 13 entries from number 13 on
pub half_upper : (o : KeyOrdering) (c : List ℕ) → half o 13 c ≡ upper o c
unfolding entries
half_upper o c = by (full_leaf o c) (full_count o c)
  where
    by : (b : Bool) → (b ≡ true → count c ≡ 26) → cond {A = Result (List ℕ) ℕ} b (Ok (renew 1 (take 13 (drop 13 (entries c))) blank)) (Err 3) ≡ cond b (Ok (renew 1 (drop 13 (entries c)) blank)) (Err 3)
    by true h =
        let f = h refl in
        let n = length-entries_of (count c) (drop 4 c) in
        ap (λ es. Ok (renew 1 es blank)) (take_all 13 (drop 13 (entries c)) (simp length-drop (omega arith)))
    by false h = refl

pub well-few : (o : KeyOrdering) (c : List ℕ) → well_formed o c ≡ true → count c ≤ 26
well-few o c h =
    let x = and_parts (slice_index c 2 == 0) (slice_index c 3 == 0 && (nat_le (count c) 26 && rising o (entries c))) h in
    let y = and_parts (slice_index c 3 == 0) (nat_le (count c) 26 && rising o (entries c)) x.1 in
    leb-true (count c) 26 (and_parts (nat_le (count c) 26) (rising o (entries c)) y.1).0

pub leaf-few : (o : KeyOrdering) (c : List ℕ) → leaf_form o c ≡ true → count c ≤ 26
leaf-few o c h = well-few o c (and_parts (mark c == 1 || (mark c == 0 && count c == 0)) (well_formed o c) h).1

-- a cut has a full leaf, and a root of one entry less than the new page's number
pub cut_parts : (o : KeyOrdering) (q : ℕ) (root leaf : List ℕ) → cut_form o q root leaf ≡ true → (count leaf ≡ 26) × (count root + 1 ≡ q)
cut_parts o q root leaf h =
    let x = and_parts (full_leaf o leaf) (root_form o root && (count root + 1 == q && absent (middle_key leaf) (entries root))) h in
    let y = and_parts (root_form o root) (count root + 1 == q && absent (middle_key leaf) (entries root)) x.1 in
    (full_count o leaf x.0, eqb-true (count root + 1) q (and_parts (count root + 1 == q) (absent (middle_key leaf) (entries root)) y.1).0)

-- ---- lengths and bytes of a renewed page

bytes_word : (n x : ℕ) → Bytes (bytes_of n x)
bytes_word zero x = tt
bytes_word (suc n) x = (omega arith, bytes_word n (x / 256))

bytes-entries : (es : List Entry) → Bytes (entries_bytes es)
bytes-entries [] = tt
bytes-entries (e ∷ es) = All-append (λ b. b < 256) (entry_bytes e) (entries_bytes es) (All-append (λ b. b < 256) (bytes_of 4 e.0) (bytes_of 4 e.1) (bytes_word 4 e.0) (bytes_word 4 e.1)) (bytes-entries es)

bytes-zeros : (n : ℕ) → Bytes (replicate n 0)
bytes-zeros zero = tt
bytes-zeros (suc n) = (omega arith, bytes-zeros n)

length-bytes : (es : List Entry) → length (entries_bytes es) ≡ 8 * length es
length-bytes [] = refl
length-bytes (e ∷ es) = let ih = length-bytes es in omega arith

pub renew-bytes : (m : ℕ) (es : List Entry) (c : List ℕ) → m < 256 → length es < 256 → Bytes c → Bytes (renew m es c)
unfolding renew
renew-bytes m es c hm hl all = (
  hm,
  (
    hl,
    (
      omega arith,
      (
        omega arith,
        All-append (λ b. b < 256) (entries_bytes es) (replicate (8 * (count c - length es)) 0 ++ drop (4 + 8 * max (length es) (count c)) c) (bytes-entries es)
            (All-append (λ b. b < 256) (replicate (8 * (count c - length es)) 0) (drop (4 + 8 * max (length es) (count c)) c) (bytes-zeros (8 * (count c - length es))) (All-drop (λ b. b < 256) (4 + 8 * max (length es) (count c)) c all)),
      ),
    ),
  ),
)

pub renew-length : (m : ℕ) (es : List Entry) (c : List ℕ) → length c ≡ 224 → count c ≤ 26 → length es ≤ 26 → length (renew m es c) ≡ 224
unfolding renew
renew-length m es c lc few le =
    let lb = length-bytes es in
    let lr = length-replicate {A = ℕ} (8 * (count c - length es)) 0 in
    let ld : length (drop (4 + 8 * max (length es) (count c)) c) ≡ 224 - (4 + 8 * max (length es) (count c)) = length-drop (4 + 8 * max (length es) (count c)) c ∙ ap (λ n. n - (4 + 8 * max (length es) (count c))) lc in
    let l1 = length-append (replicate (8 * (count c - length es)) 0) (drop (4 + 8 * max (length es) (count c)) c) in
    let l2 = length-append (entries_bytes es) (replicate (8 * (count c - length es)) 0 ++ drop (4 + 8 * max (length es) (count c)) c) in
    omega arith

blank-length : length blank ≡ 224
unfolding blank
blank-length = length-replicate {A = ℕ} 224 0

blank-count : count blank ≡ 0
unfolding blank
blank-count = refl

blank-bytes : Bytes blank
unfolding blank
blank-bytes = bytes-zeros 224

-- ---- what a step gives

took : (t : Bool) (x new : List ℕ) (n : ℕ) → cond {A = Result (List ℕ) ℕ} t (Ok x) (Err n) ≡ Ok new → (t ≡ true) × (x ≡ new)
took true x new n e = (refl, (cc))
took false x new n e = let z : ◌≡◌ {A = ℕ} 0 1 = cc in absurd (omega arith)

took-both : (t u : Bool) (x new : List ℕ) (m n : ℕ) → cond {A = Result (List ℕ) ℕ} t (cond u (Ok x) (Err m)) (Err n) ≡ Ok new → (t ≡ true) × (u ≡ true) × (x ≡ new)
took-both true true x new m n e = (refl, refl, (cc))
took-both true false x new m n e = let z : ◌≡◌ {A = ℕ} 0 1 = cc in absurd (omega arith)
took-both false u x new m n e = let z : ◌≡◌ {A = ℕ} 0 1 = cc in absurd (omega arith)

put-few : (o : KeyOrdering) → TotalOrder o → (k v : ℕ) (c : List ℕ) → length (put o k v (entries c)) ≤ count c + 1
unfolding entries
put-few o t k v c = let l = put-length o t k v (entries c) in let e = length-entries_of (count c) (drop 4 c) in omega arith

count_entries : (c : List ℕ) → length (entries c) ≡ count c
unfolding entries
count_entries c = length-entries_of (count c) (drop 4 c)

-- new contents have the written pages' length, and are bytes
pub change-sized : (o : KeyOrdering) → TotalOrder o → (s : Step) (old new : List ℕ) → Good s → length old ≡ 224 * size (sets s).0 → change o s old ≡ Ok new → length new ≡ 224 * size (sets s).1
change-sized o t (Insert p k v) old new g lo e =
    let sz = size-only p g in
    let b = took-both (leaf_form o old) (nat_le (length (put o k v (entries old))) 26) (renew 1 (put o k v (entries old)) old) new 4 3 e in
    ap length (sym b.2) ∙ renew-length 1 (put o k v (entries old)) old (omega arith) (leaf-few o old b.0) (leb-true (length (put o k v (entries old))) 26 b.1) ∙ omega arith
change-sized o t (Lower p q) old new g lo e =
    let sz = size-only q g.1 in
    let b = took (full_leaf o old) (renew 1 (take 13 (entries old)) blank) new 3 e in
    let z = blank-count in
    ap length (sym b.1) ∙ renew-length 1 (take 13 (entries old)) blank blank-length (omega arith) (simp length-take (omega arith)) ∙ omega arith
change-sized o t (Upper p q) old new g lo e =
    let sz = size-only q g.1 in
    let b = took (full_leaf o old) (renew 1 (drop 13 (entries old)) blank) new 3 e in
    let z = blank-count in
    let f = full_count o old b.0 in
    let n = count_entries old in
    ap length (sym b.1) ∙ renew-length 1 (drop 13 (entries old)) blank blank-length (omega arith) (simp length-drop (omega arith)) ∙ omega arith
change-sized o t (Cut p q) old new g lo e =
    let sz = size-both 0 p (omega arith) g.1 (λ e. omega arith) in
    let b = took (cut_form o q (take 224 old) (drop 224 old)) (renew 2 (put o (middle_key (drop 224 old)) q (entries (take 224 old))) (take 224 old) ++ renew 1 (take 13 (entries (drop 224 old))) (drop 224 old)) new 3 e in
    let parts = cut_parts o q (take 224 old) (drop 224 old) b.0 in
    let pf = put-few o t (middle_key (drop 224 old)) q (take 224 old) in
    let lr : length (take 224 old) ≡ 224 = length-take-le 224 old (omega arith) in
    let ll : length (drop 224 old) ≡ 224 = length-drop 224 old ∙ omega arith in
    let r = renew-length 2 (put o (middle_key (drop 224 old)) q (entries (take 224 old))) (take 224 old) lr (omega arith) (omega arith) in
    let h : length (take 13 (entries (drop 224 old))) ≤ 26 = simp length-take (omega arith) in
    let l = renew-length 1 (take 13 (entries (drop 224 old))) (drop 224 old) ll (omega arith) h in
    ap length (sym b.1) ∙ length-append (renew 2 (put o (middle_key (drop 224 old)) q (entries (take 224 old))) (take 224 old)) (renew 1 (take 13 (entries (drop 224 old))) (drop 224 old)) ∙ omega arith
change-sized o t Grow old new g lo e =
    let sz = size-only 0 (omega arith) in
    let b = took (full_leaf o old) (renew 2 ((o.least, 1) ∷ ((middle_key old, 2) ∷ [])) old) new 3 e in
    let f = full_count o old b.0 in
    ap length (sym b.1) ∙ renew-length 2 ((o.least, 1) ∷ ((middle_key old, 2) ∷ [])) old (omega arith) (omega arith) (omega arith) ∙ omega arith

pub change-bytes : (o : KeyOrdering) → TotalOrder o → (s : Step) (old new : List ℕ) → Good s → Bytes old → change o s old ≡ Ok new → Bytes new
change-bytes o t (Insert p k v) old new g all e =
    let b = took-both (leaf_form o old) (nat_le (length (put o k v (entries old))) 26) (renew 1 (put o k v (entries old)) old) new 4 3 e in
    let l = leb-true (length (put o k v (entries old))) 26 b.1 in
    subst Bytes b.2 (renew-bytes 1 (put o k v (entries old)) old (omega arith) (omega arith) all)
change-bytes o t (Lower p q) old new g all e =
    let b = took (full_leaf o old) (renew 1 (take 13 (entries old)) blank) new 3 e in
    subst Bytes b.1 (renew-bytes 1 (take 13 (entries old)) blank (omega arith) (simp length-take (omega arith)) blank-bytes)
change-bytes o t (Upper p q) old new g all e =
    let b = took (full_leaf o old) (renew 1 (drop 13 (entries old)) blank) new 3 e in
    let f = full_count o old b.0 in
    let n = count_entries old in
    subst Bytes b.1 (renew-bytes 1 (drop 13 (entries old)) blank (omega arith) (simp length-drop (omega arith)) blank-bytes)
change-bytes o t (Cut p q) old new g all e =
    let b = took (cut_form o q (take 224 old) (drop 224 old)) (renew 2 (put o (middle_key (drop 224 old)) q (entries (take 224 old))) (take 224 old) ++ renew 1 (take 13 (entries (drop 224 old))) (drop 224 old)) new 3 e in
    let parts = cut_parts o q (take 224 old) (drop 224 old) b.0 in
    let pf = put-few o t (middle_key (drop 224 old)) q (take 224 old) in
    let h : length (take 13 (entries (drop 224 old))) < 256 = simp length-take (omega arith) in
    subst Bytes b.1 (All-append (λ x. x < 256) (renew 2 (put o (middle_key (drop 224 old)) q (entries (take 224 old))) (take 224 old)) (renew 1 (take 13 (entries (drop 224 old))) (drop 224 old))
    (renew-bytes 2 (put o (middle_key (drop 224 old)) q (entries (take 224 old))) (take 224 old) (omega arith) (omega arith) (All-take (λ x. x < 256) 224 old all))
    (renew-bytes 1 (take 13 (entries (drop 224 old))) (drop 224 old) (omega arith) h (All-drop (λ x. x < 256) 224 old all)))
change-bytes o t Grow old new g all e =
    let b = took (full_leaf o old) (renew 2 ((o.least, 1) ∷ ((middle_key old, 2) ∷ [])) old) new 3 e in
    subst Bytes b.1 (renew-bytes 2 ((o.least, 1) ∷ ((middle_key old, 2) ∷ [])) old (omega arith) (omega arith) all)

not-one : (t : Bool) (x : List ℕ) → cond {A = Result (List ℕ) ℕ} t (Ok x) (Err 3) ≡ Err 1 → ⊥
not-one true x e = let z : ◌≡◌ {A = ℕ} 0 1 = cc in omega arith
not-one false x e = let z : ◌≡◌ {A = ℕ} 3 1 = cc in omega arith

-- a step has code 3 or 4
pub change-code : (o : KeyOrdering) (s : Step) (old : List ℕ) → change o s old ≢ Err 1
change-code o (Insert p k v) old e = two (leaf_form o old) (nat_le (length (put o k v (entries old))) 26) (renew 1 (put o k v (entries old)) old) e
  where
    two : (t u : Bool) (x : List ℕ) → cond {A = Result (List ℕ) ℕ} t (cond u (Ok x) (Err 4)) (Err 3) ≡ Err 1 → ⊥
    two true true x e = let z : ◌≡◌ {A = ℕ} 0 1 = cc in omega arith
    two true false x e = let z : ◌≡◌ {A = ℕ} 4 1 = cc in omega arith
    two false u x e = let z : ◌≡◌ {A = ℕ} 3 1 = cc in omega arith
change-code o (Lower p q) old e = not-one (full_leaf o old) (renew 1 (take 13 (entries old)) blank) e
change-code o (Upper p q) old e = not-one (full_leaf o old) (renew 1 (drop 13 (entries old)) blank) e
change-code o (Cut p q) old e = not-one (cut_form o q (take 224 old) (drop 224 old)) (renew 2 (put o (middle_key (drop 224 old)) q (entries (take 224 old))) (take 224 old) ++ renew 1 (take 13 (entries (drop 224 old))) (drop 224 old)) e
change-code o Grow old e = not-one (full_leaf o old) (renew 2 ((o.least, 1) ∷ ((middle_key old, 2) ∷ [])) old) e

-- ---- the calls

pub tree-reply_none : (o : KeyOrdering) (b old : List ℕ) (n : ℕ) → None ≡ parse b → reply (tree_meaning o) b old n ≡ Err 1
unfolding reply
tree-reply_none o b old n e = ap (λ s. within (scope_by s) (length old) n (effect_by o s old)) (sym e)

pub tree-reply_short : (o : KeyOrdering) (b old : List ℕ) (n : ℕ) (s : Step) → Some s ≡ parse b → (length old == 224 * size (sets s).0 && n == 224 * size (sets s).1) ≡ false → reply (tree_meaning o) b old n ≡ Err 2
unfolding reply
tree-reply_short o b old n s e h = ap (λ x. within (scope_by x) (length old) n (effect_by o x old)) (sym e) ∙ cond-false (length old == 224 * size (sets s).0 && n == 224 * size (sets s).1) (effect_by o (Some s) old) (Err 2) h

pub tree-reply_done : (o : KeyOrdering) (b old : List ℕ) (n : ℕ) (s : Step) → Some s ≡ parse b → (length old == 224 * size (sets s).0 && n == 224 * size (sets s).1) ≡ true → reply (tree_meaning o) b old n ≡ change o s old
unfolding reply
tree-reply_done o b old n s e h =
    let x = and_parts (length old == 224 * size (sets s).0) (n == 224 * size (sets s).1) h in
    ap (λ y. within (scope_by y) (length old) n (effect_by o y old)) (sym e)
    ∙ cond-true (length old == 224 * size (sets s).0 && n == 224 * size (sets s).1) (effect_by o (Some s) old) (Err 2) h
    ∙ cond-true (length old == 224 * size (sets s).0) (change o s old) (Err 2) x.0

-- ---- the laws

pub tree-lawful : (o : KeyOrdering) → TotalOrder o → Lawful (tree_meaning o)
tree-lawful o t = record {
  limit_from = omega arith;
  limit_to = omega arith;
  scoped = λ b r w e. scoped' (parse b) (parse-good b) r w e;
  code_one = λ b c e. code (parse b) c e;
  refused = λ b old c e. refused' (parse b) old c e;
  accepted = λ b old s e f. accepted' (parse b) old s e f;
  unsized = λ b old r w e h. unsized' (parse b) old r w e h;
  sized = λ b old new r w e f. sized' (parse b) (parse-good b) old new r w e f;
  bytes = λ b old new bs os f. bytes' (parse b) (parse-good b) old new os f;
}
  where
    scoped' : (x : Option Step) → ((s : Step) → x ≡ Some s → Good s) → (r w : ℕ) → scope_by x ≡ Ok (r, w) → Scoped 2 r w
    scoped' (Some s) good r w e =
        let er : (sets s).0 ≡ r = cc in
        let ew : (sets s).1 ≡ w = cc in
        subst (λ y. Scoped 2 r y) ew (subst (λ y. Scoped 2 y (sets s).1) er (step-scoped s (good s refl)))
    scoped' None good r w e = let z : ◌≡◌ {A = ℕ} 0 1 = cc in absurd (omega arith)

    code : (x : Option Step) (c : ℕ) → scope_by x ≡ Err c → c ≡ 1
    code (Some s) c e = let z : ◌≡◌ {A = ℕ} 0 1 = cc in absurd (omega arith)
    code None c e = cc

    refused' : (x : Option Step) (old : List ℕ) (c : ℕ) → scope_by x ≡ Err c → effect_by o x old ≡ Err 1
    refused' (Some s) old c e = let z : ◌≡◌ {A = ℕ} 0 1 = cc in absurd (omega arith)
    refused' None old c e = refl

    done : (u : Bool) (r : Result (List ℕ) ℕ) → (r ≢ Err 1) → cond u r (Err 2) ≢ Err 1
    done true r h e = h e
    done false r h e = let z : ◌≡◌ {A = ℕ} 1 2 = cc in omega arith

    accepted' : (x : Option Step) (old : List ℕ) (s : ℕ × ℕ) → scope_by x ≡ Ok s → effect_by o x old ≢ Err 1
    accepted' (Some s) old p e f = done (length old == 224 * size (sets s).0) (change o s old) (change-code o s old) f
    accepted' None old p e f = let z : ◌≡◌ {A = ℕ} 0 1 = cc in omega arith

    unsized' : (x : Option Step) (old : List ℕ) (r w : ℕ) → scope_by x ≡ Ok (r, w) → (length old ≢ 224 * size r) → effect_by o x old ≡ Err 2
    unsized' (Some s) old r w e h =
        let er : (sets s).0 ≡ r = cc in
        cond-false (length old == 224 * size (sets s).0) (change o s old) (Err 2) (ne_eqb (length old) (224 * size (sets s).0) (λ q. h (q ∙ ap (λ y. 224 * size y) er)))
    unsized' None old r w e h = let z : ◌≡◌ {A = ℕ} 0 1 = cc in absurd (omega arith)

    passed : (u : Bool) (r : Result (List ℕ) ℕ) (new : List ℕ) → cond u r (Err 2) ≡ Ok new → (u ≡ true) × (r ≡ Ok new)
    passed true r new e = (refl, e)
    passed false r new e = let z : ◌≡◌ {A = ℕ} 0 1 = cc in absurd (omega arith)

    sized' : (x : Option Step) → ((s : Step) → x ≡ Some s → Good s) → (old new : List ℕ) (r w : ℕ) → scope_by x ≡ Ok (r, w) → effect_by o x old ≡ Ok new → length new ≡ 224 * size w
    sized' (Some s) good old new r w e f =
        let ew : (sets s).1 ≡ w = cc in
        let p = passed (length old == 224 * size (sets s).0) (change o s old) new f in
        change-sized o t s old new (good s refl) (eqb-true (length old) (224 * size (sets s).0) p.0) p.1 ∙ ap (λ y. 224 * size y) ew
    sized' None good old new r w e f = let z : ◌≡◌ {A = ℕ} 0 1 = cc in absurd (omega arith)

    bytes' : (x : Option Step) → ((s : Step) → x ≡ Some s → Good s) → (old new : List ℕ) → Bytes old → effect_by o x old ≡ Ok new → Bytes new
    bytes' (Some s) good old new os f =
        let p = passed (length old == 224 * size (sets s).0) (change o s old) new f in
        change-bytes o t s old new (good s refl) os p.1
    bytes' None good old new os f = let z : ◌≡◌ {A = ℕ} 0 1 = cc in absurd (omega arith)
