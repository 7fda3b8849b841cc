-- The steps of the table are operations of the page kind.
use Rattle.std.proofs.Common.{◌≡◌, ℕ, ◌+◌, ◌*◌, ◌<◌, ◌≤◌, true, false, cond, not, ◌&&◌, ◌||◌, eqb, ltb, leb, ◌⊎◌, List, [], ◌++◌, length, take, drop, replicate, Some, None, Ok, Err, sym, refl, ap, ◌∙◌, inl, inr, arith}
use Rattle.std.specs.List.{flat_map}
use Rattle.std.proofs.lemmas.List.{length-replicate}
use Rattle.std.proofs.lemmas.Bool.{cond-true, cond-false, eq-eqb, ne_eqb, eqb-true, le-leb, or_cases, cases_lt, cases_eq}
use Rattle.std.proofs.lemmas.Bool.Decides.{nat_tests}
use Rattle.sets.specs.Sets.{has, count, size, pages}
use Rattle.sets.proofs.SetLaws.{has-none, rising-count}
use Rattle.kinds.specs.Actions as actions
use Rattle.kinds.specs.Actions.{Action, parse, sets, change, effect_by, scope_by}
use Rattle.kinds.specs.PageSets as sets_of
use Rattle.kinds.specs.PageSetLaws.{set-has}
use Rattle.redo.specs.Situations.{fill, copy, swap}
use Rattle.pagesteps.specs.PageSteps.{body_of, gathered, share_of, IsStep, PageKindSteps, TableAllowed}
use Rattle.pagesteps.proofs.RisingLaws.{One, Two, one-rising, one-count, two-rising, two-low, two-high, joined_length, part-all, part-first, part-second, turned}

-- ---- what the bodies say

parse-fill : (p b : ℕ) → p < 64 → parse (body_of (fill p b)) ≡ Some (actions.fill p b)
unfolding parse
parse-fill p b l = cond-true (leb p 63) (Some (actions.fill p b)) None (le-leb p 63 (omega arith))

parse-copy : (s t : ℕ) → s < 64 → t < 64 → (s ≡ t → ⊥) → parse (body_of (copy s t)) ≡ Some (actions.copy s t 1)
unfolding parse
parse-copy s t ls lt ne = cond-true (leb (s + 1) 64 && (leb (t + 1) 64 && (leb (s + 1) t || leb (t + 1) s))) (Some (actions.copy s t 1)) None ok
  where
    ok : (leb (s + 1) 64 && (leb (t + 1) 64 && (leb (s + 1) t || leb (t + 1) s))) ≡ true
    ok = grind (arith, nat_tests)

parse-swap : (a b : ℕ) → a < 64 → b < 64 → (a ≡ b → ⊥) → parse (body_of (swap a b)) ≡ Some (actions.swap a b)
unfolding parse
parse-swap a b la lb ne = cond-true (leb a 63 && (leb b 63 && not (eqb a b))) (Some (actions.swap a b)) None ok
  where
    ok : (leb a 63 && (leb b 63 && not (eqb a b))) ≡ true
    ok = grind (arith, nat_tests)

-- ---- the sets that they name

only-has : (p q : ℕ) → p < 64 → has (sets_of.only p) q ≡ eqb q p
only-has p q l = set-has (λ q. eqb q p) q ∙ at
  where
    at : (eqb q p && ltb q 64) ≡ eqb q p
    at = grind (arith, nat_tests)

run-has : (s q : ℕ) → s < 64 → has (sets_of.run s 1) q ≡ eqb q s
run-has s q l = set-has (λ q. leb s q && ltb q (s + 1)) q ∙ at
  where
    at : ((leb s q && ltb q (s + 1)) && ltb q 64) ≡ eqb q s
    at = grind (arith, nat_tests)

both-has : (a b q : ℕ) → a < 64 → b < 64 → has (sets_of.both a b) q ≡ (eqb q a || eqb q b)
both-has a b q la lb = set-has (λ q. eqb q a || eqb q b) q ∙ at
  where
    at : ((eqb q a || eqb q b) && ltb q 64) ≡ (eqb q a || eqb q b)
    at = grind (arith, nat_tests)

-- a set of one page, and of two
one_of : (set p : ℕ) → p < 64 → ((q : ℕ) → has set q ≡ eqb q p) → One (has set) p
one_of set p l same = record { inside = l; here = same p ∙ eq-eqb p p refl; others = λ q ne. same q ∙ ne_eqb q p ne }

two-of : (set low high : ℕ) → low < high → high < 64 → ((q : ℕ) → has set q ≡ (eqb q low || eqb q high)) → Two (has set) low high
two-of set low high l h same = record { apart = l; inside = h; lower = same low ∙ at_low; higher = same high ∙ at_high; others = λ q ne nf. same q ∙ at_other q ne nf }
  where
    at_low : (eqb low low || eqb low high) ≡ true
    at_low = grind (arith, nat_tests)

    at_high : (eqb high low || eqb high high) ≡ true
    at_high = grind (arith, nat_tests)

    at_other : (q : ℕ) → (q ≡ low → ⊥) → (q ≡ high → ⊥) → (eqb q low || eqb q high) ≡ false
    at_other q ne nf = grind (arith, nat_tests)

-- ---- what the kind makes of the pages read

gathered-length : (r : ℕ) (contents : ℕ → List ℕ) → ((q : ℕ) → length (contents q) ≡ 224) → length (gathered r contents) ≡ 224 * size r
gathered-length r contents sized = joined_length 224 contents (pages r) sized ∙ ap (λ n. 224 * n) (rising-count (has r) 64)

kind_effect : (b old : List ℕ) (a : Action) → parse b ≡ Some a → length old ≡ 224 * size (sets a).0 → effect_by (parse b) old ≡ Ok (change a old)
kind_effect b old a e sized = ap (λ o. effect_by o old) e ∙ cond-true (eqb (length old) (224 * size (sets a).0)) (Ok (change a old)) (Err 2) (eq-eqb (length old) (224 * size (sets a).0) sized)

-- the share of a page with none of the set below it, and of one with one below it
share_none : (set q : ℕ) (new : List ℕ) → count (has set) q ≡ 0 → share_of set new q ≡ take 224 new
share_none set q new e = ap (λ n. take 224 (drop (224 * n) new)) e

share_one : (set q : ℕ) (new : List ℕ) → count (has set) q ≡ 1 → share_of set new q ≡ take 224 (drop 224 new)
share_one set q new e = ap (λ n. take 224 (drop (224 * n) new)) e

-- ---- the steps

fill_is : (p b : ℕ) → p < 64 → IsStep (fill p b)
fill_is p b l = record {
  reads = 0;
  writes = sets_of.only p;
  scope = ap scope_by (parse-fill p b l);
  reads_same = has-none;
  writes_same = λ q. only-has p q l;
  effect_same = λ contents sized. record {
    new = replicate 224 b;
    value = λ q. replicate 224 b;
    kind_gives = kind_effect (body_of (fill p b)) (gathered 0 contents) (actions.fill p b) (parse-fill p b l) (gathered-length 0 contents sized);
    step_gives = refl;
    shares = λ q inside. shared q (eqb-true q p (sym (only-has p q l) ∙ inside));
  };
}
  where
    one : One (has (sets_of.only p)) p
    one = one_of (sets_of.only p) p l (λ q. only-has p q l)

    shared : (q : ℕ) → q ≡ p → share_of (sets_of.only p) (replicate 224 b) q ≡ replicate 224 b
    shared q e = share_none (sets_of.only p) q (replicate 224 b) (ap (count (has (sets_of.only p))) e ∙ one-count (has (sets_of.only p)) p one) ∙ part-all 224 (replicate 224 b) (length-replicate 224 b)

copy_is : (s t : ℕ) → s < 64 → t < 64 → (s ≡ t → ⊥) → IsStep (copy s t)
copy_is s t ls lt ne = record {
  reads = sets_of.run s 1;
  writes = sets_of.run t 1;
  scope = ap scope_by (parse-copy s t ls lt ne);
  reads_same = λ q. run-has s q ls;
  writes_same = λ q. run-has t q lt;
  effect_same = λ contents sized. record {
    new = gathered (sets_of.run s 1) contents;
    value = λ q. contents s;
    kind_gives = kind_effect (body_of (copy s t)) (gathered (sets_of.run s 1) contents) (actions.copy s t 1) (parse-copy s t ls lt ne) (gathered-length (sets_of.run s 1) contents sized);
    step_gives = refl;
    shares = λ q inside. shared contents (sized s) q (eqb-true q t (sym (run-has t q lt) ∙ inside));
  };
}
  where
    source : One (has (sets_of.run s 1)) s
    source = one_of (sets_of.run s 1) s ls (λ q. run-has s q ls)

    target : One (has (sets_of.run t 1)) t
    target = one_of (sets_of.run t 1) t lt (λ q. run-has t q lt)

    shared : (contents : ℕ → List ℕ) → length (contents s) ≡ 224 → (q : ℕ) → q ≡ t → share_of (sets_of.run t 1) (gathered (sets_of.run s 1) contents) q ≡ contents s
    shared contents sized q e =
        share_none (sets_of.run t 1) q (gathered (sets_of.run s 1) contents) (ap (count (has (sets_of.run t 1))) e ∙ one-count (has (sets_of.run t 1)) t target)
        ∙ ap (λ ps. take 224 (flat_map contents ps)) (one-rising (has (sets_of.run s 1)) s source)
        ∙ part-first 224 (contents s) [] sized

-- the contents of two pages exchanged: the lower page's share is the higher one's contents, and the other way round
abbrev exchanged : ℕ → (ℕ → List ℕ) → List ℕ
exchanged set contents = drop 224 (gathered set contents) ++ take 224 (gathered set contents)

module _ (set low high : ℕ) (two : Two (has set) low high) (contents : ℕ → List ℕ) (sized : (q : ℕ) → length (contents q) ≡ 224) where
  exchanged-is : exchanged set contents ≡ contents high ++ contents low
  exchanged-is = ap (λ ps. drop 224 (flat_map contents ps) ++ take 224 (flat_map contents ps)) (two-rising (has set) low high two) ∙ turned 224 (contents low) (contents high) (sized low)

  low-share : share_of set (exchanged set contents) low ≡ contents high
  low-share = share_none set low (exchanged set contents) (two-low (has set) low high two) ∙ ap (take 224) exchanged-is ∙ part-first 224 (contents high) (contents low) (sized high)

  high-share : share_of set (exchanged set contents) high ≡ contents low
  high-share = share_one set high (exchanged set contents) (two-high (has set) low high two) ∙ ap (λ xs. take 224 (drop 224 xs)) exchanged-is ∙ part-second 224 (contents high) (contents low) (sized high) (sized low)

-- whichever of the two is the lower
module _ (set a b : ℕ) (la : a < 64) (lb : b < 64) (ne : a ≡ b → ⊥) (same : (q : ℕ) → has set q ≡ (eqb q a || eqb q b)) (contents : ℕ → List ℕ) (sized : (q : ℕ) → length (contents q) ≡ 224) where
  turned-test : (q : ℕ) → (eqb q a || eqb q b) ≡ (eqb q b || eqb q a)
  turned-test q = grind (arith, nat_tests)

  both-shares : (share_of set (exchanged set contents) a ≡ contents b) × (share_of set (exchanged set contents) b ≡ contents a)
  both-shares = elim (cases_lt a b) [
    | inl l ↦ let two = two-of set a b l lb same in (low-share set a b two contents sized, high-share set a b two contents sized)
    | inr g ↦ let l : b < a = less g in
        let two = two-of set b a l la (λ q. same q ∙ turned-test q) in (high-share set b a two contents sized, low-share set b a two contents sized)
  ]
    where
      less : b ≤ a → b < a
      less g = elim (cases_eq a b) [ inl e ↦ absurd (ne e) | inr _ ↦ omega arith ]

  swap-share : (q : ℕ) → (eqb q a ≡ true) ⊎ (eqb q b ≡ true) → share_of set (exchanged set contents) q ≡ cond (eqb q a) (contents b) (contents a)
  swap-share q (inl at_a) = ap (share_of set (exchanged set contents)) (eqb-true q a at_a) ∙ both-shares.0 ∙ sym (cond-true (eqb q a) (contents b) (contents a) at_a)
  swap-share q (inr at_b) =
      let e = eqb-true q b at_b in
      ap (share_of set (exchanged set contents)) e ∙ both-shares.1 ∙ sym (cond-false (eqb q a) (contents b) (contents a) (ne_eqb q a (λ z. ne (sym z ∙ e))))

swap_is : (a b : ℕ) → a < 64 → b < 64 → (a ≡ b → ⊥) → IsStep (swap a b)
swap_is a b la lb ne = record {
  reads = sets_of.both a b;
  writes = sets_of.both a b;
  scope = ap scope_by (parse-swap a b la lb ne);
  reads_same = same;
  writes_same = same;
  effect_same = λ contents sized. record {
    new = exchanged (sets_of.both a b) contents;
    value = λ q. cond (eqb q a) (contents b) (contents a);
    kind_gives = kind_effect (body_of (swap a b)) (gathered (sets_of.both a b) contents) (actions.swap a b) (parse-swap a b la lb ne) (gathered-length (sets_of.both a b) contents sized);
    step_gives = refl;
    shares = λ q inside. swap-share (sets_of.both a b) a b la lb ne same contents sized q (or_cases (eqb q a) (eqb q b) (sym (same q) ∙ inside));
  };
}
  where
    same : (q : ℕ) → has (sets_of.both a b) q ≡ (eqb q a || eqb q b)
    same q = both-has a b q la lb

pub page-steps : PageKindSteps
page-steps (fill p b) l = fill_is p b (omega arith)
page-steps (copy s t) ok = copy_is s t ok.0 ok.1 ok.2
page-steps (swap a b) ok = swap_is a b ok.0 ok.1 ok.2

-- ---- the table

pub table-allowed : TableAllowed
table-allowed = omega arith
