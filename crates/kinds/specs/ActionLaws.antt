-- Bodies of the page kind.
use Rattle.std.specs.Prelude.{◌≡◌, ℕ, zero, suc, ◌+◌, ◌*◌, ◌<◌, ◌≤◌, Bool, true, false, cond, not, ◌&&◌, ◌||◌, List, ◌++◌, length, take, drop, replicate, Some, None, Ok, Err, Option, Result, ◌==◌, ◌≢◌, nat_eq, nat_le, nat_lt, slice_index, refl}
use Rattle.std.proofs.Common.{inl, inr, sym, ap, subst, ◌∙◌, arith}
use Rattle.std.proofs.ByRecursion.{All-take, All-drop, All-append, All-get_or}
use Rattle.std.proofs.lemmas.List.{length-append, length-take, length-drop, length-replicate, get_or_past}
use Rattle.std.proofs.lemmas.Bool.{cond-true, cond-false, cond_both, and_parts, leb-true, ltb-true, eqb-true, eqb-false, ne_eqb, not-true, cases_lt}
use Rattle.sets.specs.Sets.{size}
use Rattle.kinds.specs.Actions.{Action, patch, fill, copy, swap, when, parse, patch_of, fill_from, copy_of, swap_from, sets, change, scope_by, effect_by, page_meaning, Ready}
use Rattle.kinds.specs.Kinds.{Bytes, Scoped, Lawful, within, reply}
use Rattle.kinds.specs.PageSetLaws.{set_below, size-only, size-both, size-run, size_none}

-- ---- what a body that is parsed says

when-by : (P : Action → Type 0) (ok : Bool) (x a : Action) → (ok ≡ true → P x) → when ok x ≡ Some a → P a
when-by P true x a h e = let same : x ≡ a = cc in subst P same (h refl)
when-by P false x a h e = let z : ◌≡◌ {A = ℕ} 0 1 = cc in absurd (omega arith)

-- by the four forms
pub parse-cases : (P : Action → Type 0) (b : List ℕ)
    → ((nat_le (slice_index b 1) 63 && (nat_lt 0 (length (drop 3 b)) && nat_le (slice_index b 2 + length (drop 3 b)) 224)) ≡ true → P (patch (slice_index b 1) (slice_index b 2) (drop 3 b)))
    → (nat_le (slice_index b 1) 63 ≡ true → P (fill (slice_index b 1) (slice_index b 2)))
    → ((nat_lt 0 (slice_index b 3) && (nat_le (slice_index b 3) 4 && (nat_le (slice_index b 1 + slice_index b 3) 64 && (nat_le (slice_index b 2 + slice_index b 3) 64 && (nat_le (slice_index b 1 + slice_index b 3) (slice_index b 2) || nat_le (slice_index b 2 + slice_index b 3) (slice_index b 1)))))) ≡ true → P (copy (slice_index b 1) (slice_index b 2) (slice_index b 3)))
    → ((nat_le (slice_index b 1) 63 && (nat_le (slice_index b 2) 63 && not (slice_index b 1 == slice_index b 2))) ≡ true → P (swap (slice_index b 1) (slice_index b 2)))
    → (a : Action) → parse b ≡ Some a → P a
unfolding parse
parse-cases P b hp hf hc hs a =
    cond_both (slice_index b 0 == 1 && nat_le 3 (length b)) (patch_of (slice_index b 1) (slice_index b 2) (drop 3 b)) _ (λ o. o ≡ Some a → P a) (λ _. when-by P _ (patch (slice_index b 1) (slice_index b 2) (drop 3 b)) a hp)
    (λ _. cond_both (slice_index b 0 == 2 && length b == 3) (fill_from (slice_index b 1) (slice_index b 2)) _ (λ o. o ≡ Some a → P a) (λ _. when-by P _ (fill (slice_index b 1) (slice_index b 2)) a hf)
    (λ _. cond_both (slice_index b 0 == 3 && length b == 4) (copy_of (slice_index b 1) (slice_index b 2) (slice_index b 3)) _ (λ o. o ≡ Some a → P a) (λ _. when-by P _ (copy (slice_index b 1) (slice_index b 2) (slice_index b 3)) a hc)
    (λ _. cond_both (slice_index b 0 == 4 && length b == 3) (swap_from (slice_index b 1) (slice_index b 2)) None (λ o. o ≡ Some a → P a) (λ _. when-by P _ (swap (slice_index b 1) (slice_index b 2)) a hs)
    (λ _ e. let z : ◌≡◌ {A = ℕ} 0 1 = cc in absurd (omega arith)))))

-- an action that a body can say
abbrev pub Good : Action → Type 0
Good (patch p o bytes) = (p < 64) × (o + length bytes ≤ 224)
Good (fill p b) = p < 64
Good (copy s t c) = (1 ≤ c) × (c ≤ 4) × (s + c ≤ 64) × (t + c ≤ 64)
Good (swap a b) = (a < 64) × (b < 64) × (a ≢ b)

pub parse-good : (b : List ℕ) (a : Action) → parse b ≡ Some a → Good a
parse-good b = parse-cases Good b (λ h. patches (slice_index b 1) (slice_index b 2) (drop 3 b) h) (λ h. omega (arith, leb-true (slice_index b 1) 63 h)) (λ h. copies (slice_index b 1) (slice_index b 2) (slice_index b 3) h) (λ h. swaps (slice_index b 1) (slice_index b 2) h)
  where
    patches : (p o : ℕ) (bs : List ℕ) → (nat_le p 63 && (nat_lt 0 (length bs) && nat_le (o + length bs) 224)) ≡ true → (p < 64) × (o + length bs ≤ 224)
    patches p o bs h =
        let x = and_parts (nat_le p 63) (nat_lt 0 (length bs) && nat_le (o + length bs) 224) h in
        let y = and_parts (nat_lt 0 (length bs)) (nat_le (o + length bs) 224) x.1 in
        (omega (arith, leb-true p 63 x.0), leb-true (o + length bs) 224 y.1)

    copies : (s t c : ℕ) → (nat_lt 0 c && (nat_le c 4 && (nat_le (s + c) 64 && (nat_le (t + c) 64 && (nat_le (s + c) t || nat_le (t + c) s))))) ≡ true → (1 ≤ c) × (c ≤ 4) × (s + c ≤ 64) × (t + c ≤ 64)
    copies s t c h =
        let x = and_parts (nat_lt 0 c) (nat_le c 4 && (nat_le (s + c) 64 && (nat_le (t + c) 64 && (nat_le (s + c) t || nat_le (t + c) s)))) h in
        let y = and_parts (nat_le c 4) (nat_le (s + c) 64 && (nat_le (t + c) 64 && (nat_le (s + c) t || nat_le (t + c) s))) x.1 in
        let z = and_parts (nat_le (s + c) 64) (nat_le (t + c) 64 && (nat_le (s + c) t || nat_le (t + c) s)) y.1 in
        let w = and_parts (nat_le (t + c) 64) (nat_le (s + c) t || nat_le (t + c) s) z.1 in
        (omega (arith, ltb-true 0 c x.0), leb-true c 4 y.0, leb-true (s + c) 64 z.0, leb-true (t + c) 64 w.0)

    swaps : (a b : ℕ) → (nat_le a 63 && (nat_le b 63 && not (a == b))) ≡ true → (a < 64) × (b < 64) × (a ≢ b)
    swaps a b h =
        let x = and_parts (nat_le a 63) (nat_le b 63 && not (a == b)) h in
        let y = and_parts (nat_le b 63) (not (a == b)) x.1 in
        (omega (arith, leb-true a 63 x.0), omega (arith, leb-true b 63 y.0), eqb-false a b (not-true (a == b) y.1))

-- the bytes that an action brings
abbrev pub Brings : Action → Type 0
Brings (patch p o bytes) = Bytes bytes
Brings (fill p b) = b < 256
Brings (copy s t c) = Unit {0}
Brings (swap a b) = Unit {0}

byte_at : (b : List ℕ) (i : ℕ) → Bytes b → slice_index b i < 256
byte_at b i all = elim (cases_lt i (length b)) [
  | inl l ↦ All-get_or (λ x. x < 256) b i 0 l all
  | inr past ↦ let e = get_or_past b i 0 past in omega arith
]

pub parse-brings : (b : List ℕ) → Bytes b → (a : Action) → parse b ≡ Some a → Brings a
parse-brings b all = parse-cases Brings b (λ _. All-drop (λ x. x < 256) 3 b all) (λ _. byte_at b 2 all) (λ _. tt) (λ _. tt)

-- ---- sizes

pub action-scoped : (a : Action) → Good a → Scoped 4 (sets a).0 (sets a).1
action-scoped (patch p o bytes) g = let s = size-only p g.0 in record { reads_pages = set_below (λ q. nat_eq q p); writes_pages = set_below (λ q. nat_eq q p); reads_few = omega arith; writes_few = omega arith; writes_some = omega arith }
action-scoped (fill p b) g = let s = size-only p g in let z = size_none in record { reads_pages = omega arith; writes_pages = set_below (λ q. nat_eq q p); reads_few = omega arith; writes_few = omega arith; writes_some = omega arith }
action-scoped (copy s t c) g =
    let x = size-run s c g.2 in
    let y = size-run t c g.3 in
    record { reads_pages = set_below (λ q. nat_le s q && nat_lt q (s + c)); writes_pages = set_below (λ q. nat_le t q && nat_lt q (t + c)); reads_few = omega arith; writes_few = omega arith; writes_some = omega arith }
action-scoped (swap a b) g = let s = size-both a b g.0 g.1 g.2 in record { reads_pages = set_below (λ q. (q == a) || q == b); writes_pages = set_below (λ q. (q == a) || q == b); reads_few = omega arith; writes_few = omega arith; writes_some = omega arith }

pub action-ready : (a : Action) (k n : ℕ) → Good a → k ≡ 224 * size (sets a).0 → n ≡ 224 * size (sets a).1 → Ready a k n
action-ready (patch p o bytes) k n g ek en = let s = size-only p g.0 in (omega arith, omega arith, g.1)
action-ready (fill p b) k n g ek en = let s = size-only p g in omega arith
action-ready (copy s t c) k n g ek en = let x = size-run s c g.2 in let y = size-run t c g.3 in omega arith
action-ready (swap a b) k n g ek en = let s = size-both a b g.0 g.1 g.2 in (omega arith, omega arith)

pub change-sized : (a : Action) (old : List ℕ) → Good a → length old ≡ 224 * size (sets a).0 → length (change a old) ≡ 224 * size (sets a).1
change-sized (patch p o bytes) old g e = let s = size-only p g.0 in simp (length-append, length-take, length-drop) (omega arith)
change-sized (fill p b) old g e = let s = size-only p g in let l = length-replicate 224 b in omega arith
change-sized (copy s t c) old g e = let x = size-run s c g.2 in let y = size-run t c g.3 in omega arith
change-sized (swap a b) old g e = simp (length-append, length-take, length-drop) (omega arith)

pub change-bytes : (a : Action) (old : List ℕ) → Brings a → Bytes old → Bytes (change a old)
change-bytes (patch p o bytes) old h all = All-append (λ x. x < 256) (take o old) (bytes ++ drop (o + length bytes) old) (All-take (λ x. x < 256) o old all) (All-append (λ x. x < 256) bytes (drop (o + length bytes) old) h (All-drop (λ x. x < 256) (o + length bytes) old all))
change-bytes (fill p b) old h all = same 224
  where
    same : (n : ℕ) → Bytes (replicate n b)
    same zero = tt
    same (suc n) = (h, same n)
change-bytes (copy s t c) old h all = all
change-bytes (swap a b) old h all = All-append (λ x. x < 256) (drop 224 old) (take 224 old) (All-drop (λ x. x < 256) 224 old all) (All-take (λ x. x < 256) 224 old all)

-- ---- the page kind is a kind

pub page-reply_none : (b old : List ℕ) (n : ℕ) → None ≡ parse b → reply page_meaning b old n ≡ Err 1
unfolding reply
page-reply_none b old n e = ap (λ o. within (scope_by o) (length old) n (effect_by o old)) (sym e)

pub page-reply_short : (b old : List ℕ) (n : ℕ) (a : Action) → Some a ≡ parse b → (length old == 224 * size (sets a).0 && n == 224 * size (sets a).1) ≡ false → reply page_meaning b old n ≡ Err 2
unfolding reply
page-reply_short b old n a e h = ap (λ o. within (scope_by o) (length old) n (effect_by o old)) (sym e) ∙ cond-false (length old == 224 * size (sets a).0 && n == 224 * size (sets a).1) (effect_by (Some a) old) (Err 2) h

pub page-reply_done : (b old : List ℕ) (n : ℕ) (a : Action) → Some a ≡ parse b → (length old == 224 * size (sets a).0 && n == 224 * size (sets a).1) ≡ true → reply page_meaning b old n ≡ Ok (change a old)
unfolding reply
page-reply_done b old n a e h =
    let x = and_parts (length old == 224 * size (sets a).0) (n == 224 * size (sets a).1) h in
    ap (λ o. within (scope_by o) (length old) n (effect_by o old)) (sym e) ∙ cond-true (length old == 224 * size (sets a).0 && n == 224 * size (sets a).1) (effect_by (Some a) old) (Err 2) h ∙ cond-true (length old == 224 * size (sets a).0) (Ok (change a old)) (Err 2) x.0

pub page-lawful : Lawful page_meaning
page-lawful = record {
  limit_from = omega arith;
  limit_to = omega arith;
  scoped = λ b r w e. scoped' (parse b) (parse-good b) r w e;
  code_one = λ b c e. code (parse b) c e;
  refused = λ b old c e. refused' (parse b) old c e;
  accepted = λ b old s e f. accepted' (parse b) old s e f;
  unsized = λ b old r w e h. unsized' (parse b) old r w e h;
  sized = λ b old new r w e f. sized' (parse b) (parse-good b) old new r w e f;
  bytes = λ b old new bs os f. bytes' (parse b) (parse-brings b bs) old new os f;
}
  where
    scoped' : (o : Option Action) → ((a : Action) → o ≡ Some a → Good a) → (r w : ℕ) → scope_by o ≡ Ok (r, w) → Scoped 4 r w
    scoped' (Some a) good r w e =
        let er : (sets a).0 ≡ r = cc in
        let ew : (sets a).1 ≡ w = cc in
        subst (λ x. Scoped 4 r x) ew (subst (λ x. Scoped 4 x (sets a).1) er (action-scoped a (good a refl)))
    scoped' None good r w e = let z : ◌≡◌ {A = ℕ} 0 1 = cc in absurd (omega arith)

    code : (o : Option Action) (c : ℕ) → scope_by o ≡ Err c → c ≡ 1
    code (Some a) c e = let z : ◌≡◌ {A = ℕ} 0 1 = cc in absurd (omega arith)
    code None c e = cc

    refused' : (o : Option Action) (old : List ℕ) (c : ℕ) → scope_by o ≡ Err c → effect_by o old ≡ Err 1
    refused' (Some a) old c e = let z : ◌≡◌ {A = ℕ} 0 1 = cc in absurd (omega arith)
    refused' None old c e = refl

    done : (t : Bool) (new : List ℕ) → cond {A = Result (List ℕ) ℕ} t (Ok new) (Err 2) ≡ Err 1 → ⊥
    done true new e = let z : ◌≡◌ {A = ℕ} 0 1 = cc in omega arith
    done false new e = let z : ◌≡◌ {A = ℕ} 1 2 = cc in omega arith

    accepted' : (o : Option Action) (old : List ℕ) (s : ℕ × ℕ) → scope_by o ≡ Ok s → effect_by o old ≢ Err 1
    accepted' (Some a) old s e f = done (length old == 224 * size (sets a).0) (change a old) f
    accepted' None old s e f = let z : ◌≡◌ {A = ℕ} 0 1 = cc in omega arith

    unsized' : (o : Option Action) (old : List ℕ) (r w : ℕ) → scope_by o ≡ Ok (r, w) → (length old ≢ 224 * size r) → effect_by o old ≡ Err 2
    unsized' (Some a) old r w e h =
        let er : (sets a).0 ≡ r = cc in
        cond-false (length old == 224 * size (sets a).0) (Ok (change a old)) (Err 2) (ne_eqb (length old) (224 * size (sets a).0) (λ x. h (x ∙ ap (λ y. 224 * size y) er)))
    unsized' None old r w e h = let z : ◌≡◌ {A = ℕ} 0 1 = cc in absurd (omega arith)

    took : (t : Bool) (x new : List ℕ) → cond {A = Result (List ℕ) ℕ} t (Ok x) (Err 2) ≡ Ok new → (t ≡ true) × (x ≡ new)
    took true x new e = (refl, (cc))
    took false x new e = let z : ◌≡◌ {A = ℕ} 0 1 = cc in absurd (omega arith)

    sized' : (o : Option Action) → ((a : Action) → o ≡ Some a → Good a) → (old new : List ℕ) (r w : ℕ) → scope_by o ≡ Ok (r, w) → effect_by o old ≡ Ok new → length new ≡ 224 * size w
    sized' (Some a) good old new r w e f =
        let ew : (sets a).1 ≡ w = cc in
        let t = took (length old == 224 * size (sets a).0) (change a old) new f in
        ap length (sym t.1) ∙ change-sized a old (good a refl) (eqb-true (length old) (224 * size (sets a).0) t.0) ∙ ap (λ y. 224 * size y) ew
    sized' None good old new r w e f = let z : ◌≡◌ {A = ℕ} 0 1 = cc in absurd (omega arith)

    bytes' : (o : Option Action) → ((a : Action) → o ≡ Some a → Brings a) → (old new : List ℕ) → Bytes old → effect_by o old ≡ Ok new → Bytes new
    bytes' (Some a) brings old new os f =
        let t = took (length old == 224 * size (sets a).0) (change a old) new f in
        subst Bytes t.1 (change-bytes a old (brings a refl) os)
    bytes' None brings old new os f = let z : ◌≡◌ {A = ℕ} 0 1 = cc in absurd (omega arith)
