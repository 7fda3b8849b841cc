-- The table of situations, by computation.
use Rattle.std.proofs.Common.{◌≡◌, ℕ, zero, suc, ◌-◌, ◌<◌, Bool, true, false, cond, not, ◌&&◌, ◌||◌, eqb, ltb, leb, List, [], ◌∷◌, ◌++◌, length, get_or, replicate, Some, sym, refl, ap, ◌∙◌, subst, ap₂, inl, inr, arith, lit<}
use Rattle.std.specs.List.{AllByRecursion, list_all}
use Rattle.std.proofs.lemmas.Bool.{both_ways, cases_eq, and_parts, and_left, and_right, or_cases, or_left, or_right, eqb-true, eq-eqb, ne_eqb, ltb-true, cond-false, le-ltb}
use Rattle.redo.specs.Histories.{page_count, reads, writes, touches, contents_of, after, image, GoesByReads, WellFormed, Ran}
use Rattle.redo.specs.Prefixes.{uninstalled, Prefix, Exposed, Installed}
use Rattle.redo.specs.Recovery.{some}
use Rattle.redo.specs.WriteGraph.{Operations, Dirty, SameGroup, DirectlyBefore}
use Rattle.redo.specs.Installation.{joined}
use Rattle.redo.specs.Situations.{none, only, listed, Step, fill, copy, swap, operation_of, blank, history_of, graph_of, together, in_order, Row, Shows, bench, table, bench_history, with_41, SituationsShown}
use Rattle.redo.specs.Theorems.{Recovers}
use Rattle.redo.proofs.InstallLaws.{uninstalled-parts}
use Rattle.redo.proofs.GraphLaws.{reach-from, reach-to, directly_reaches}
use Rattle.redo.specs.Closure.{via}
use Rattle.redo.proofs.DecideLaws.{some_of, group-test, order-test, group-decides, order-decides}
use Rattle.redo.proofs.RecoveryLaws.{redo-recovers, installed-recoverable}
use Rattle.sets.specs.Sets.{rising}

-- ---- the steps

every-of_at : (qs : List ℕ) (f : ℕ → Bool) (p : ℕ) → list_all f qs ≡ true → listed qs p ≡ true → f p ≡ true
unfolding listed
every-of_at [] f p e l = absurd (both_ways false refl l)
every-of_at (q ∷ qs) f p e l =
    let u = and_parts (f q) (list_all f qs) e in
    elim (or_cases (eqb p q) (listed qs p) l) [ inl same ↦ rw (eqb-true p q same) u.0 | inr below ↦ every-of_at qs f p u.1 below ]

written : Step → List ℕ
written (fill p b) = p ∷ []
written (copy s t) = t ∷ []
written (swap a b) = a ∷ b ∷ []

written_listed : (s : Step) (p : ℕ) → (operation_of s).writes p ≡ true → listed (written s) p ≡ true
unfolding written listed
written_listed (fill q b) p e = or_left (eqb p q) false e
written_listed (copy s t) p e = or_left (eqb p t) false e
written_listed (swap a b) p e = elim (or_cases (eqb p a) (eqb p b) e) [
  | inl x ↦ or_left (eqb p a) (eqb p b || false) x
  | inr x ↦ or_right (eqb p a) (eqb p b || false) (or_left (eqb p b) false x)
]

writes_some : (s : Step) → (p : ℕ) × ((operation_of s).writes p ≡ true)
writes_some (fill p b) = (p, eq-eqb p p refl)
writes_some (copy s t) = (t, eq-eqb t t refl)
writes_some (swap a b) = (a, or_left (eqb a a) (eqb a b) (eq-eqb a a refl))

goes : (s : Step) → GoesByReads (operation_of s)
goes (fill p b) s t same = refl
goes (copy a b) s t same = ap (λ (x : List ℕ). Some (λ q. x)) (same a (eq-eqb a a refl))
goes (swap a b) s t same =
    ap₂ (λ (x y : List ℕ). Some (λ q. cond (eqb q a) x y)) (same b (or_right (eqb b a) (eqb b b) (eq-eqb b b refl))) (same a (or_left (eqb a a) (eqb a b) (eq-eqb a a refl)))

accepts : (s : Step) (old : ℕ → List ℕ) → (new : ℕ → List ℕ) × ((operation_of s).effect old ≡ Some new)
accepts (fill p b) old = (λ q. replicate 224 b, refl)
accepts (copy s t) old = (λ q. old s, refl)
accepts (swap a b) old = (λ q. cond (eqb q a) (old b) (old a), refl)

every-step_at : (ss : List Step) (f : Step → Bool) (i : ℕ) (d : Step) → list_all f ss ≡ true → i < length ss → f (get_or ss i d) ≡ true
every-step_at [] f i d e l = absurd (omega arith)
every-step_at (s ∷ ss) f zero d e l = (and_parts (f s) (list_all f ss) e).0
every-step_at (s ∷ ss) f (suc i) d e l = every-step_at ss f i d (and_parts (f s) (list_all f ss) e).1 (omega arith)

on_pages : Step → Bool
on_pages s = list_all (λ p. ltb p 64) (written s)

well_formed : (s : Step) → on_pages s ≡ true → WellFormed (operation_of s)
unfolding on_pages
well_formed s e = record {
  goes_by_reads = goes s;
  writes_some = writes_some s;
  on_pages = λ p wr. ltb-true p 64 (every-of_at (written s) (λ p. ltb p 64) p e (written_listed s p wr));
}

steps-ran : (ss : List Step) → list_all on_pages ss ≡ true → Ran (history_of ss) (suc (length ss))
steps-ran ss e = record {
  starts_below = λ p. lit< tt;
  well_formed = λ m f l. well_formed (get_or ss (m - 1) (fill 0 0)) (every-step_at ss on_pages (m - 1) (fill 0 0) e (omega arith));
  accepted = λ m f l. accepts (get_or ss (m - 1) (fill 0 0)) (contents_of (after (history_of ss) m));
}

-- ---- a row

pages-of : List (List ℕ) → List ℕ
pages-of [] = []
pages-of (g ∷ gs) = g ++ pages-of gs

listed-left : (xs ys : List ℕ) (p : ℕ) → listed xs p ≡ true → listed (xs ++ ys) p ≡ true
unfolding listed
listed-left [] ys p l = absurd (both_ways false refl l)
listed-left (x ∷ xs) ys p l = elim (or_cases (eqb p x) (listed xs p) l) [
  | inl e ↦ or_left (eqb p x) (listed (xs ++ ys) p) e
  | inr r ↦ or_right (eqb p x) (listed (xs ++ ys) p) (listed-left xs ys p r)
]

listed-right : (xs ys : List ℕ) (p : ℕ) → listed ys p ≡ true → listed (xs ++ ys) p ≡ true
unfolding listed
listed-right [] ys p l = l
listed-right (x ∷ xs) ys p l = or_right (eqb p x) (listed (xs ++ ys) p) (listed-right xs ys p l)

together-listed : (gs : List (List ℕ)) (p q : ℕ) → together gs p q ≡ true → (listed (pages-of gs) p ≡ true) × (listed (pages-of gs) q ≡ true)
unfolding together pages-of
together-listed [] p q e = absurd (both_ways false refl e)
together-listed (g ∷ gs) p q e = elim (or_cases (listed g p && listed g q) (together gs p q) e) [
  | inl here ↦ let u = and_parts (listed g p) (listed g q) here in (listed-left g (pages-of gs) p u.0, listed-left g (pages-of gs) q u.1)
  | inr below ↦ let u = together-listed gs p q below in (listed-right g (pages-of gs) p u.0, listed-right g (pages-of gs) q u.1)
]

order-within : List ℕ → List (List ℕ × List ℕ) → Bool
order-within ks [] = true
order-within ks (x ∷ xs) = (list_all (listed ks) x.0 && list_all (listed ks) x.1) && order-within ks xs

order-listed : (ks : List ℕ) (xs : List (List ℕ × List ℕ)) (p q : ℕ) → order-within ks xs ≡ true → in_order xs p q ≡ true → (listed ks p ≡ true) × (listed ks q ≡ true)
unfolding in_order order-within
order-listed ks [] p q w e = absurd (both_ways false refl e)
order-listed ks (x ∷ xs) p q w e =
    let inner = and_parts (list_all (listed ks) x.0 && list_all (listed ks) x.1) (order-within ks xs) w in
    let both = and_parts (list_all (listed ks) x.0) (list_all (listed ks) x.1) inner.0 in
    elim (or_cases (listed x.0 p && listed x.1 q) (in_order xs p q) e) [
      | inl here ↦ let u = and_parts (listed x.0 p) (listed x.1 q) here in
          (every-of_at x.0 (listed ks) p both.0 u.0, every-of_at x.1 (listed ks) q both.1 u.1)
      | inr below ↦ order-listed ks xs p q inner.1 below
    ]

agree : Bool → Bool → Bool
agree true b = b
agree false b = not b

agree_same : (a b : Bool) → agree a b ≡ true → a ≡ b
unfolding agree
agree_same true true e = refl
agree_same true false e = sym e
agree_same false true e = e
agree_same false false e = refl

-- the tests at two pages are what the row says
pair_shown : Row → List ℕ → ℕ → ℕ → Bool
pair_shown row ks a b =
    agree (together row.groups a b) (group-test (graph_of row.steps) (suc (length row.steps)) ks a b)
    && agree (in_order row.order a b) (order-test (graph_of row.steps) (suc (length row.steps)) ks a b)

-- a row is checked at the pages of its groups, which must be all that its steps write and its order names
shown : Row → Bool
shown row =
    let ks = pages-of row.groups in
    (list_all (λ s. list_all (listed ks) (written s)) row.steps && order-within ks row.order)
    && list_all (λ a. list_all (pair_shown row ks a) ks) ks

row_shows : (row : Row) → shown row ≡ true → Shows row
unfolding shown pair_shown
row_shows row e = (λ p q. (group-sound p q, group-complete p q), λ p q. (order-sound p q, order-complete p q))
  where
    d : Operations
    d = graph_of row.steps

    n : ℕ
    n = suc (length row.steps)

    ks : List ℕ
    ks = pages-of row.groups

    parts : ((list_all (λ s. list_all (listed ks) (written s)) row.steps && order-within ks row.order) ≡ true) × (list_all (λ a. list_all (pair_shown row ks a) ks) ks ≡ true)
    parts = and_parts (list_all (λ s. list_all (listed ks) (written s)) row.steps && order-within ks row.order) (list_all (λ a. list_all (pair_shown row ks a) ks) ks) e

    firsts : (list_all (λ s. list_all (listed ks) (written s)) row.steps ≡ true) × (order-within ks row.order ≡ true)
    firsts = and_parts (list_all (λ s. list_all (listed ks) (written s)) row.steps) (order-within ks row.order) parts.0

    few : (m : ℕ) → (graph_of row.steps).dirty m ≡ true → m < suc (length row.steps)
    few m dirty = (uninstalled-parts (history_of row.steps) none n m dirty).1

    inside : (m p : ℕ) → (graph_of row.steps).dirty m ≡ true → (graph_of row.steps).writes m p ≡ true → listed ks p ≡ true
    inside m p dirty wr =
        let u = uninstalled-parts (history_of row.steps) none n m dirty in
        let s = get_or row.steps (m - 1) (fill 0 0) in
        let at = (and_parts (leb 1 m) ((operation_of s).writes p) wr).1 in
        let lt : m - 1 < length row.steps = omega (arith, u.0, u.1) in
        every-of_at (written s) (listed ks) p (every-step_at row.steps (λ s. list_all (listed ks) (written s)) (m - 1) (fill 0 0) firsts.0 lt) (written_listed s p at)

    at : (p q : ℕ) → listed ks p ≡ true → listed ks q ≡ true → (together row.groups p q ≡ group-test d n ks p q) × (in_order row.order p q ≡ order-test d n ks p q)
    at p q lp lq =
        let u = and_parts (agree (together row.groups p q) (group-test d n ks p q)) (agree (in_order row.order p q) (order-test d n ks p q))
        (every-of_at ks (pair_shown row ks p) q (every-of_at ks (λ a. list_all (pair_shown row ks a) ks) p parts.1 lp) lq) in
        (agree_same (together row.groups p q) (group-test d n ks p q) u.0, agree_same (in_order row.order p q) (order-test d n ks p q) u.1)

    dirty-in : (p : ℕ) → Dirty d p → listed ks p ≡ true
    dirty-in p (m, dirty, wr) = inside m p dirty wr

    group-sound : (p q : ℕ) → together row.groups p q ≡ true → SameGroup d p q
    group-sound p q t = let l = together-listed row.groups p q t in (group-decides d n ks few inside p q).0 (sym (at p q l.0 l.1).0 ∙ t)

    group-complete : (p q : ℕ) → SameGroup d p q → together row.groups p q ≡ true
    group-complete p q s = (at p q (dirty-in p (reach-from d s.0)) (dirty-in q (reach-to d s.0))).0 ∙ (group-decides d n ks few inside p q).1 s

    order-sound : (p q : ℕ) → in_order row.order p q ≡ true → DirectlyBefore d p q
    order-sound p q t = let l = order-listed ks row.order p q firsts.1 t in (order-decides d n ks few inside p q).0 (sym (at p q l.0 l.1).1 ∙ t)

    order-complete : (p q : ℕ) → DirectlyBefore d p q → in_order row.order p q ≡ true
    order-complete p q b =
        let s = directly_reaches d p q b in
        (at p q (dirty-in p (reach-from d s)) (dirty-in q (reach-to d s))).1 ∙ (order-decides d n ks few inside p q).1 b

rows_show : (rs : List Row) → list_all shown rs ≡ true → AllByRecursion Shows rs
rows_show [] e = tt
rows_show (r ∷ rs) e = let u = and_parts (shown r) (list_all shown rs) e in (row_shows r u.0, rows_show rs u.1)

-- the whole table
computed : list_all shown table ≡ true
unfolding shown pair_shown written pages-of order-within agree together in_order listed via some_of some
computed = refl

-- ---- once page 41 of the bench history is installed

bench-on_pages : list_all on_pages bench ≡ true
unfolding on_pages written
bench-on_pages = refl

bench-ran : Ran bench_history 4
bench-ran = steps-ran bench bench-on_pages

-- operations 1 and 3 do not touch page 41
touch_41 : (k : ℕ) → k < 4 → only 2 k ≡ false → touches bench_history k 41 ≡ false
touch_41 zero l o = refl
touch_41 (suc zero) l o = refl
touch_41 (suc (suc zero)) l o = absurd (both_ways true o refl)
touch_41 (suc (suc (suc zero))) l o = refl
touch_41 (suc (suc (suc (suc k)))) l o = absurd (omega arith)

-- only operation 2 reads page 40
read_40 : (k : ℕ) → k < 4 → only 2 k ≡ false → reads bench_history k 40 ≡ false
read_40 zero l o = refl
read_40 (suc zero) l o = refl
read_40 (suc (suc zero)) l o = absurd (both_ways true o refl)
read_40 (suc (suc (suc zero))) l o = refl
read_40 (suc (suc (suc (suc k)))) l o = absurd (omega arith)

bench-prefix : Prefix bench_history (only 2) 4
bench-prefix O P x l pn i wr t =
    let two = eqb-true P 2 i in
    let page : writes bench_history 2 x ≡ true = subst (λ (k : ℕ). writes bench_history k x ≡ true) two wr in
    let touched : touches bench_history O 41 ≡ true = subst (λ (y : ℕ). touches bench_history O y ≡ true) (eqb-true x 41 page) t in
    absurd (both_ways (touches bench_history O 41) (touch_41 O (omega arith) (ne_eqb O 2 (λ e. omega arith))) touched)

bench-joins : (m : ℕ) → joined bench_history none 4 (only 41) m ≡ only 2 m
unfolding some
bench-joins zero = refl
bench-joins (suc zero) = refl
bench-joins (suc (suc zero)) = refl
bench-joins (suc (suc (suc zero))) = refl
bench-joins (suc (suc (suc (suc k)))) =
    let m = suc (suc (suc (suc k))) in
    let out : (ltb m 4 && true) ≡ false = and_left (ltb m 4) true (le-ltb m 4 (omega arith)) in
    and_left (uninstalled bench_history none 4 m) (some page_count (λ q. writes bench_history m q && only 41 q)) (and_right (leb 1 m) (ltb m 4 && true) out)
    ∙ sym (ne_eqb m 2 (λ e. omega arith))

bench-images : (p : ℕ) → with_41 p ≡ image bench_history (only 2) 4 p
unfolding image after
bench-images p = elim (cases_eq p 41) [
  | inl same ↦ subst (λ (q : ℕ). with_41 q ≡ image bench_history (only 2) 4 q) (sym same) refl
  | inr other ↦
      let e = ne_eqb p 41 other in
      cond-false (eqb p 41) (after bench_history 4 p) (blank p) e ∙ sym (cond-false (eqb p 41) (after bench_history 3 p) (blank p) e)
]

bench-installed : Installed bench_history (only 2) 4 with_41
bench-installed = record {
  were_run = λ m e. let two = eqb-true m 2 e in omega arith;
  is_prefix = bench-prefix;
  images = bench-images;
}

hidden_40 : Exposed bench_history (only 2) 4 40 → ⊥
hidden_40 (inl untouched) = both_ways true (untouched 1 (lit< tt) refl) refl
hidden_40 (inr x) = both_ways (reads bench_history x.op 40) (read_40 x.op x.below x.outside) x.reads_it

bench-listed : rising (uninstalled bench_history (only 2) 4) 4 ≡ 1 ∷ 3 ∷ []
unfolding rising
bench-listed = refl

bench-pages : (after bench_history 4 40 ≡ record { contents = replicate 224 7; number = 3 }) × (after bench_history 4 41 ≡ record { contents = replicate 224 5; number = 2 })
unfolding after
bench-pages = (refl, refl)

pub situations_shown_lem : SituationsShown
situations_shown_lem = (
  rows_show table computed,
  record {
    joins = bench-joins;
    is_prefix = bench-prefix;
    installed = bench-installed;
    hides_40 = hidden_40;
    exposes_41 = inl touch_41;
    redoes = recovers.runs_again ∙ bench-listed;
    page_40 = recovers.all_pages 40 ∙ bench-pages.0;
    page_41 = recovers.all_pages 41 ∙ bench-pages.1;
  },
)
  where
    recovers : Recovers bench_history (only 2) 4 with_41
    recovers = redo-recovers bench_history (only 2) 4 with_41 bench-ran (installed-recoverable bench_history (only 2) 4 with_41 bench-installed)
