-- Redo recovers.
use Rattle.std.proofs.Common.{◌≡◌, ℕ, zero, suc, ◌<◌, ◌≤◌, Bool, true, false, cond, not, ◌&&◌, ◌||◌, ltb, leb, ◌⊎◌, sym, refl, ap, ◌∙◌, subst, inl, inr, arith}
use mathlib.Core.Path.{fun_ext}
use Rattle.std.proofs.lemmas.Bool.{false_from_ne_true, both_ways, cases_lt, cases_eq, and_parts, and_from, and_left, or_left, or_right, or_from, or_cases, leb-true, ltb-true, lt-ltb, le-ltb, le-leb, not_from_false, not-true}
use Rattle.redo.specs.Histories.{page_count, Page, History, reads, writes, touches, contents_of, effect_on, run, after, image, Ran}
use Rattle.redo.specs.Prefixes.{uninstalled, Prefix, Untouched, Exposed, Explains, Numbered}
use Rattle.redo.specs.Recovery.{every, AtOrAbove, Below, present, missing, redo}
use Rattle.redo.specs.Theorems.{RedoRecovers, InstalledRecoverable}
use Rattle.redo.proofs.TestLaws.{every-from, every-at, rising-like}
use Rattle.redo.proofs.HistoryLaws.{writes-from, after-suc, run-written, run-unwritten, image-hit, image-all, image-like, image-still, image-reaches, image-below}

-- the operations of I, and all below m
abbrev until : (ℕ → Bool) → ℕ → ℕ → Bool
until I m k = I k || ltb k m

until-below : (I : ℕ → Bool) (m k : ℕ) → k < m → until I m k ≡ true
until-below I m k l = or_right (I k) (ltb k m) (lt-ltb k m l)

until-above : (I : ℕ → Bool) (m k : ℕ) → m ≤ k → until I m k ≡ I k
until-above I m k l = go (I k)
  where
    go : (b : Bool) → (b || ltb k m) ≡ b
    go true = refl
    go false = le-ltb k m l

until-other : (I : ℕ → Bool) (m k : ℕ) → (k ≡ m → ⊥) → until I (suc m) k ≡ until I m k
until-other I m k ne = elim (cases_lt k m) [
  | inl l ↦ until-below I (suc m) k (omega arith) ∙ sym (until-below I m k l)
  | inr g ↦ until-above I (suc m) k (omega arith) ∙ sym (until-above I m k g)
]

page-same : (p q : Page) → p.contents ≡ q.contents → p.number ≡ q.number → p ≡ q
page-same p q c n = λ i. record { contents = c i; number = n i }

module _ (h : History) (I : ℕ → Bool) (n : ℕ) (ran : Ran h n) where
  -- a test of each page that an operation writes
  pub tested-each : (m : ℕ) (t : ℕ → Bool) → m < n → every page_count (λ p. not (writes h m p) || t p) ≡ true → (p : ℕ) → writes h m p ≡ true → t p ≡ true
  tested-each m t l e p wr =
      let small = (ran.well_formed m (writes-from h m p wr) l).on_pages p (and_parts (leb h.first m) ((h.operation m).writes p) wr).1 in
      elim (or_cases (not (writes h m p)) (t p) (every-at page_count (λ p. not (writes h m p) || t p) p e small)) [
        | inl out ↦ absurd (both_ways (writes h m p) (not-true (writes h m p) out) wr)
        | inr is ↦ is
      ]

  pub each-tested : (m : ℕ) (t : ℕ → Bool) → ((p : ℕ) → writes h m p ≡ true → t p ≡ true) → every page_count (λ p. not (writes h m p) || t p) ≡ true
  each-tested m t all = every-from page_count (λ p. not (writes h m p) || t p) (λ p l. each p (writes h m p) refl)
    where
      each : (p : ℕ) (b : Bool) → writes h m p ≡ b → (not (writes h m p) || t p) ≡ true
      each p true e = or_right (not (writes h m p)) (t p) (all p e)
      each p false e = or_left (not (writes h m p)) (t p) (not_from_false (writes h m p) e)

  -- the tests say what they test
  pub missing-below : (m : ℕ) (v : ℕ → Page) → m < n → missing h m v ≡ true → Below h m v
  missing-below m v l e p wr = ltb-true (v p).number m (tested-each m (λ p. ltb (v p).number m) l e p wr)

  pub below-missing : (m : ℕ) (v : ℕ → Page) → Below h m v → missing h m v ≡ true
  below-missing m v all = each-tested m (λ p. ltb (v p).number m) (λ p wr. lt-ltb (v p).number m (all p wr))

  pub present-above : (m : ℕ) (v : ℕ → Page) → m < n → present h m v ≡ true → AtOrAbove h m v
  present-above m v l e p wr = leb-true m (v p).number (tested-each m (λ p. leb m (v p).number) l e p wr)

  pub above-present : (m : ℕ) (v : ℕ → Page) → AtOrAbove h m v → present h m v ≡ true
  above-present m v all = each-tested m (λ p. leb m (v p).number) (λ p wr. le-leb m (v p).number (all p wr))

  -- an operation's pages are never both at or above its number and below it
  pub not_mixed : (m : ℕ) (v : ℕ → Page) → h.first ≤ m → m < n → AtOrAbove h m v → Below h m v → ⊥
  not_mixed m v f l up down =
      let some = (ran.well_formed m f l).writes_some in
      let wr : writes h m some.0 ≡ true = and_from (leb h.first m) ((h.operation m).writes some.0) (le-leb h.first m f) some.1 in
      omega (arith, up some.0 wr, down some.0 wr)

  module _ (pre : Prefix h I n) where
    -- an operation outside the prefix keeps out the later ones that write what it touches
    later-out : (m k p : ℕ) → I m ≡ false → m < k → k < n → touches h m p ≡ true → writes h k p ≡ true → I k ≡ false
    later-out m k p out l kn t wr = false_from_ne_true (I k) (λ i. both_ways (I m) out (pre m k p l kn i wr t))

    -- no operation from m on that is in the set writes what m touches
    none_from : (m p j : ℕ) → I m ≡ false → touches h m p ≡ true → m ≤ j → j < n → writes h j p ≡ true → I j ≡ false
    none_from m p j out t l jn wr = elim (cases_eq j m) [
      | inl same ↦ rw same out
      | inr other ↦ later-out m j p out (omega arith) jn t wr
    ]

    -- numbers tell, where a set J that is as I from m on has numbered the pages
    told_in : (J : ℕ → Bool) (v : ℕ → Page) (m : ℕ) → Numbered h J n v → J m ≡ true → m < n → AtOrAbove h m v
    told_in J v m num j l p wr = let r = image-reaches h n ran J m n p (omega arith) l j wr in omega (arith, num p)

    told-out : (J : ℕ → Bool) (v : ℕ → Page) (m : ℕ) → ((k : ℕ) → m ≤ k → J k ≡ I k) → Numbered h J n v → I m ≡ false → Below h m v
    told-out J v m like num out p wr =
        let b = image-below h n ran J m n p (omega arith) (writes-from h m p wr)
        (λ j l jn w. like j l ∙ none_from m p j out (or_right (reads h m p) (writes h m p) wr) l jn w) in
        omega (arith, num p)

    -- how far redo has come: the operations of I and those below m explain the pages
    record Explained (J : ℕ → Bool) (v : ℕ → Page) : Type 0 where
      numbered : Numbered h J n v
      shown : (p : ℕ) → Exposed h J n p → v p ≡ image h J n p

    abbrev Progress : ℕ → (ℕ → Page) → Type 0
    Progress m v = Explained (until I m) v

    begins : (w : ℕ → Page) → Explains h I n (contents_of w) → Numbered h I n w → Progress 0 w
    begins w ex num =
        let same : I ≡ until I 0 = fun_ext (λ k. sym (until-above I 0 k (omega arith))) in
        let now : Explained I w = record { numbered = num; shown = λ p e. page-same (w p) (image h I n p) (ex p e) (num p) } in
        subst (λ (J : ℕ → Bool). Explained J w) same now

    -- the next operation outside I reads what it read first
    same_reads : (m : ℕ) (v : ℕ → Page) → Progress m v → m < n → I m ≡ false → (x : ℕ) → reads h m x ≡ true → v x ≡ after h m x
    same_reads m v pr l out x rd =
        pr.shown x (inr (record {
          op = m;
          below = l;
          outside = until-above I m m (omega arith) ∙ out;
          reads_it = rd;
          none_earlier = λ k lt o. absurd (both_ways (until I m k) o (until-below I m k lt));
        }))
        ∙ image-still h (until I m) m n x (omega arith)
        (λ j a b wr. until-above I m j a ∙ none_from m x j out (or_left (reads h m x) (writes h m x) rd) a b wr)
        ∙ image-all h (until I m) m x (λ k lt _. until-below I m k lt)

    same_effect : (m : ℕ) (v : ℕ → Page) → Progress m v → h.first ≤ m → m < n → I m ≡ false → effect_on h m v ≡ effect_on h m (after h m)
    same_effect m v pr f l out =
        (ran.well_formed m f l).goes_by_reads (contents_of v) (contents_of (after h m))
        (λ x rd. ap (λ (p : Page). p.contents) (same_reads m v pr l out x (and_from (leb h.first m) ((h.operation m).reads x) (le-leb h.first m f) rd)))

    -- what is exposed once operation m has run again was exposed before, but for the pages that it wrote
    exposed-before : (m p : ℕ) → m < n → I m ≡ false → writes h m p ≡ false → Exposed h (until I (suc m)) n p → Exposed h (until I m) n p
    exposed-before m p l out unwritten ex = go (reads h m p) refl ex
      where
        earlier : reads h m p ≡ false → (j : ℕ) → Untouched h (until I (suc m)) j p → Untouched h (until I m) j p
        earlier rd j unt k lt o = elim (cases_eq k m) [
          | inl same ↦ rw same (or_from (reads h m p) (writes h m p) rd unwritten)
          | inr other ↦ unt k lt (until-other I m k other ∙ o)
        ]

        go : (b : Bool) → reads h m p ≡ b → Exposed h (until I (suc m)) n p → Exposed h (until I m) n p
        go true rd _ = inr (record {
          op = m;
          below = l;
          outside = until-above I m m (omega arith) ∙ out;
          reads_it = rd;
          none_earlier = λ k lt o. absurd (both_ways (until I m k) o (until-below I m k lt));
        })
        go false rd (inl unt) = inl (earlier rd n unt)
        go false rd (inr fr) =
            let other : fr.op ≡ m → ⊥ = λ same. both_ways (reads h m p) rd (rw same at fr.reads_it) in
            inr (record {
              op = fr.op;
              below = fr.below;
              outside = sym (until-other I m fr.op other) ∙ fr.outside;
              reads_it = fr.reads_it;
              none_earlier = earlier rd fr.op fr.none_earlier;
            })

    -- an operation that runs again
    runs_again : (m : ℕ) (v : ℕ → Page) → Progress m v → m < n → I m ≡ false → Progress (suc m) (run h m v)
    runs_again m v pr l out = record {
      numbered = λ p. numbered-at p (writes h m p) refl;
      shown = λ p ex. shown-at p ex (writes h m p) refl;
    }
      where
        at-written : (p : ℕ) → writes h m p ≡ true → run h m v p ≡ image h (until I (suc m)) n p
        at-written p wr =
            let f = writes-from h m p wr in
            let ok = ran.accepted m f l in
            run-written h m p v ok.0 wr (same_effect m v pr f l out ∙ ok.1)
            ∙ sym (run-written h m p (after h m) ok.0 wr ok.1)
            ∙ ap (λ (w : ℕ → Page). w p) (sym (after-suc h m))
            ∙ sym (image-hit h (until I (suc m)) m p (until-below I (suc m) m (omega arith)) wr)
            ∙ sym (image-still h (until I (suc m)) (suc m) n p l
            (λ j a b w. until-above I (suc m) j a ∙ later-out m j p out a b (or_right (reads h m p) (writes h m p) wr) w))

        like : (p : ℕ) → writes h m p ≡ false → image h (until I m) n p ≡ image h (until I (suc m)) n p
        like p un = image-like h (until I m) (until I (suc m)) n p
            (λ k kn wr. sym (until-other I m k (λ same. both_ways (writes h m p) un (rw same at wr))))

        numbered-at : (p : ℕ) (b : Bool) → writes h m p ≡ b → (run h m v p).number ≡ (image h (until I (suc m)) n p).number
        numbered-at p true wr = ap (λ (q : Page). q.number) (at-written p wr)
        numbered-at p false un = ap (λ (q : Page). q.number) (run-unwritten h m p v un) ∙ pr.numbered p ∙ ap (λ (q : Page). q.number) (like p un)

        shown-at : (p : ℕ) → Exposed h (until I (suc m)) n p → (b : Bool) → writes h m p ≡ b → run h m v p ≡ image h (until I (suc m)) n p
        shown-at p ex true wr = at-written p wr
        shown-at p ex false un = run-unwritten h m p v un ∙ pr.shown p (exposed-before m p l out un ex) ∙ like p un

    -- one step of redo
    abbrev next : ℕ → (ℕ → Page) → ℕ → Page
    next m v = cond (missing h m v) (run h m v) v

    missing-out : (m : ℕ) (v : ℕ → Page) → Progress m v → I m ≡ false → missing h m v ≡ true
    missing-out m v pr out = below-missing m v (told-out (until I m) v m (λ k l. until-above I m k l) pr.numbered out)

    above_in : (m : ℕ) (v : ℕ → Page) → Progress m v → m < n → I m ≡ true → AtOrAbove h m v
    above_in m v pr l i = told_in (until I m) v m pr.numbered (or_left (I m) (ltb m m) i) l

    goes_on : (m : ℕ) (v : ℕ → Page) → Progress m v → m < n → Progress (suc m) (next m v)
    goes_on m v pr l = go (I m) refl
      where
        go : (b : Bool) → I m ≡ b → Progress (suc m) (next m v)
        go false out = rw (missing-out m v pr out) (runs_again m v pr l out)
        go true i = subst (λ (J : ℕ → Bool). Explained J (next m v)) (sym same) (subst (λ (u : ℕ → Page). Progress m u) (sym stays) pr)
          where
            same : until I (suc m) ≡ until I m
            same = fun_ext (λ k. elim (cases_eq k m) [
              | inl e ↦ rw e (or_left (I m) (ltb m (suc m)) i ∙ sym (or_left (I m) (ltb m m) i))
              | inr other ↦ until-other I m k other
            ])

            stays : next m v ≡ v
            stays = fun_ext (λ p. at p (missing h m v) refl)
              where
                at : (p : ℕ) (b : Bool) → missing h m v ≡ b → next m v p ≡ v p
                at p false e = rw e refl
                at p true e = rw e (unwritten (writes h m p) refl)
                  where
                    unwritten : (b : Bool) → writes h m p ≡ b → run h m v p ≡ v p
                    unwritten false un = run-unwritten h m p v un
                    unwritten true wr = absurd (omega (arith, missing-below m v l e p wr, above_in m v pr l i p wr))

    redo-suc : (m : ℕ) (w : ℕ → Page) → redo h (suc m) w ≡ next m (redo h m w)
    unfolding redo
    redo-suc m w = refl

    -- redo up to any operation
    comes : (m : ℕ) (w : ℕ → Page) → m ≤ n → Progress 0 w → Progress m (redo h m w)
    unfolding redo
    comes zero w l pr = pr
    comes (suc m) w l pr = goes_on m (redo h m w) (comes m w (omega arith) pr) l

    ends : (v : ℕ → Page) → Progress n v → (p : ℕ) → v p ≡ after h n p
    ends v pr p =
        pr.shown p (inl (λ k l o. absurd (both_ways (until I n k) o (until-below I n k l))))
        ∙ image-all h (until I n) n p (λ k l _. until-below I n k l)

pub redo-recovers : RedoRecovers
redo-recovers h I n w ran rec = record {
  installed_told = λ m f l. (λ i. told_in h I n ran pre I w m rec.numbered i l, λ up. in_from_above m f l up (I m) refl);
  missing_told = λ m f l. (λ o. told-out h I n ran pre I w m (λ k _. refl) rec.numbered o, λ down. out-from_below m f l down (I m) refl);
  not_mixed = λ m f l. one_of m f l (I m) refl;
  present_then = λ m f l. present-at m f l (I m) refl;
  missing_then = λ m f l. missing_at m f l (I m) refl;
  runs_again = rising-like (λ m. leb h.first m && missing h m (redo h m w)) (uninstalled h I n) n (λ m l. again-at m l (leb h.first m) refl);
  first_effect = λ m f l o. same_effect h I n ran pre m (redo h m w) (at m l) f l o;
  accepted = λ m f l o. let ok = ran.accepted m f l in (ok.0, same_effect h I n ran pre m (redo h m w) (at m l) f l o ∙ ok.1);
  all_pages = ends h I n ran pre (redo h n w) (comes h I n ran pre n w (omega arith) start);
}
  where
    pre : Prefix h I n
    pre = rec.is_prefix

    start : Progress h I n ran pre 0 w
    start = begins h I n ran pre w rec.explains rec.numbered

    at : (m : ℕ) → m < n → Progress h I n ran pre m (redo h m w)
    at m l = comes h I n ran pre m w (omega arith) start

    in_from_above : (m : ℕ) → h.first ≤ m → m < n → AtOrAbove h m w → (b : Bool) → I m ≡ b → I m ≡ true
    in_from_above m f l up true e = e
    in_from_above m f l up false e = absurd (not_mixed h I n ran m w f l up (told-out h I n ran pre I w m (λ k _. refl) rec.numbered e))

    out-from_below : (m : ℕ) → h.first ≤ m → m < n → Below h m w → (b : Bool) → I m ≡ b → I m ≡ false
    out-from_below m f l down false e = e
    out-from_below m f l down true e = absurd (not_mixed h I n ran m w f l (told_in h I n ran pre I w m rec.numbered e l) down)

    one_of : (m : ℕ) → h.first ≤ m → m < n → (b : Bool) → I m ≡ b → AtOrAbove h m w ⊎ Below h m w
    one_of m f l true e = inl (told_in h I n ran pre I w m rec.numbered e l)
    one_of m f l false e = inr (told-out h I n ran pre I w m (λ k _. refl) rec.numbered e)

    not-both : (m : ℕ) → h.first ≤ m → m < n → present h m (redo h m w) ≡ true → missing h m (redo h m w) ≡ true → ⊥
    not-both m f l a b = not_mixed h I n ran m (redo h m w) f l (present-above h I n ran m (redo h m w) l a) (missing-below h I n ran m (redo h m w) l b)

    present-at : (m : ℕ) → h.first ≤ m → m < n → (b : Bool) → I m ≡ b → present h m (redo h m w) ≡ I m
    present-at m f l true e = above-present h I n ran m (redo h m w) (above_in h I n ran pre m (redo h m w) (at m l) l e) ∙ sym e
    present-at m f l false e =
        false_from_ne_true (present h m (redo h m w)) (λ up. not-both m f l up (missing-out h I n ran pre m (redo h m w) (at m l) e)) ∙ sym e

    missing_at : (m : ℕ) → h.first ≤ m → m < n → (b : Bool) → I m ≡ b → missing h m (redo h m w) ≡ not (I m)
    missing_at m f l false e = missing-out h I n ran pre m (redo h m w) (at m l) e ∙ sym (ap not e)
    missing_at m f l true e =
        false_from_ne_true (missing h m (redo h m w)) (not-both m f l (above-present h I n ran m (redo h m w) (above_in h I n ran pre m (redo h m w) (at m l) l e)))
        ∙ sym (ap not e)

    again-at : (m : ℕ) → m < n → (b : Bool) → leb h.first m ≡ b → (leb h.first m && missing h m (redo h m w)) ≡ uninstalled h I n m
    again-at m l true e = ap (λ x. leb h.first m && x) (missing_at m (leb-true h.first m e) l (I m) refl ∙ sym (ap (λ x. x && not (I m)) (lt-ltb m n l)))
    again-at m l false e = and_left (leb h.first m) (missing h m (redo h m w)) e ∙ sym (and_left (leb h.first m) (ltb m n && not (I m)) e)

pub installed-recoverable : InstalledRecoverable
installed-recoverable h I n w kept = record {
  is_prefix = kept.is_prefix;
  explains = λ p _. ap (λ (q : Page). q.contents) (kept.images p);
  numbered = λ p. ap (λ (q : Page). q.number) (kept.images p);
}
