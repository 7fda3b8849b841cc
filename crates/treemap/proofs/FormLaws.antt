-- The forms of pages: what a leaf and a root hold, and the pages that are written as such.
use Rattle.std.proofs.Common.{◌≡◌, ℕ, suc, ◌+◌, ◌≤◌, true, false, ◌&&◌, ◌||◌, eqb, leb, ◌⊎◌, List, [], ◌∷◌, length, get_or, drop, sym, refl, ap, ◌∙◌, subst, inl, inr, arith}
use Rattle.std.proofs.lemmas.Bool.{cond-false, eq-eqb, ne_eqb, eqb-true, both_ways, and_parts, and_from, and_left, or_cases, or_left, leb-true, le-leb}
use Rattle.std.proofs.ByRecursion.{All-weaker}
use Rattle.tree.specs.Orders.{KeyOrdering, TotalOrder}
use Rattle.tree.specs.Nodes.{Entry, absent, put, rising, fresh, mark, count, entries, renew, well_formed, leaf_form, full_leaf, root_form, opening_key, middle_key}
use Rattle.tree.specs.Laws.{Words}
use Rattle.tree.specs.EntryLaws.{from, from_more, from_all, entry_at}
use Rattle.tree.specs.NodeLaws.{length-entries_of, drop-entries}
use Rattle.tree.specs.TreeLaws.{well-few, renew-length}
use Rattle.tree.proofs.MapLaws.{codec, puts}
use Rattle.treemap.specs.Lookups.{last_up_to}
use Rattle.treemap.proofs.RouteLaws.{put-by, absent-parts, Apart, last-all, fresh-range, fresh-apart, fresh-put}

pub count_entries : (c : List ℕ) → length (entries c) ≡ count c
unfolding entries
count_entries c = length-entries_of (count c) (drop 4 c)

-- ---- what a form says

well-rises : (o : KeyOrdering) (c : List ℕ) → well_formed o c ≡ true → rising o (entries c) ≡ true
well-rises o c h =
    let x = and_parts (eqb (get_or c 2 0) 0) (eqb (get_or c 3 0) 0 && (leb (count c) 26 && rising o (entries c))) h in
    let y = and_parts (eqb (get_or c 3 0) 0) (leb (count c) 26 && rising o (entries c)) x.1 in
    (and_parts (leb (count c) 26) (rising o (entries c)) y.1).1

pub leaf-rises : (o : KeyOrdering) (c : List ℕ) → leaf_form o c ≡ true → rising o (entries c) ≡ true
leaf-rises o c h = well-rises o c (and_parts (eqb (mark c) 1 || (eqb (mark c) 0 && eqb (count c) 0)) (well_formed o c) h).1

pub full_parts : (o : KeyOrdering) (c : List ℕ) → full_leaf o c ≡ true → (count c ≡ 26) × (leaf_form o c ≡ true)
full_parts o c h = let x = and_parts (eqb (count c) 26) (leaf_form o c) h in (eqb-true (count c) 26 x.0, x.1)

pub full_from : (o : KeyOrdering) (c : List ℕ) → count c ≡ 26 → leaf_form o c ≡ true → full_leaf o c ≡ true
full_from o c n h = and_from (eqb (count c) 26) (leaf_form o c) (eq-eqb (count c) 26 n) h

-- a leaf is no root
pub leaf-no_root : (o : KeyOrdering) (c : List ℕ) → leaf_form o c ≡ true → root_form o c ≡ false
leaf-no_root o c h = and_left (eqb (mark c) 2) (leb 2 (count c) && (eqb (opening_key c) o.least && (fresh (count c) (λ _. false) (entries c) && well_formed o c))) (ne_eqb (mark c) 2 (λ two. other two (or_cases (eqb (mark c) 1) (eqb (mark c) 0 && eqb (count c) 0) (and_parts (eqb (mark c) 1 || (eqb (mark c) 0 && eqb (count c) 0)) (well_formed o c) h).0)))
  where
    other : mark c ≡ 2 → (eqb (mark c) 1 ≡ true) ⊎ ((eqb (mark c) 0 && eqb (count c) 0) ≡ true) → ⊥
    other two (inl one) = let e = eqb-true (mark c) 1 one in omega arith
    other two (inr none) = let e = eqb-true (mark c) 0 (and_parts (eqb (mark c) 0) (eqb (count c) 0) none).0 in omega arith

pub first_key : (c : List ℕ) (e : Entry) (es : List Entry) → entries c ≡ e ∷ es → opening_key c ≡ e.0
first_key c e es h =
    let n = count_entries c in
    let l : suc (length es) ≡ count c = sym (ap length h) ∙ n in
    let whole : entry_at c 0 ∷ from c (count c) 1 ≡ e ∷ es = sym (from_more c (count c) 0 (omega arith)) ∙ from_all c (count c) refl ∙ h in
    ap (λ x. x.0) (heads (entry_at c 0) e (from c (count c) 1) es whole)
  where
    heads : (a b : Entry) (as' bs : List Entry) → a ∷ as' ≡ b ∷ bs → a ≡ b
    heads a b as' bs q = cc

-- the middle key heads the upper half of 26 entries
pub middle-heads : (c : List ℕ) → count c ≡ 26 → (w : ℕ) × (rest : List Entry) × (drop 13 (entries c) ≡ (middle_key c, w) ∷ rest)
middle-heads c n = ((entry_at c 13).1, from c (count c) 14, drop-entries c (count c) 13 refl ∙ from_more c (count c) 13 (omega arith))

-- ---- the entries of a root

pub record Root (o : KeyOrdering) (n : ℕ) (es : List Entry) : Type 0 where
  pub rises : rising o es ≡ true
  pub values : fresh n (λ _. false) es ≡ true
  pub first : Entry
  pub rest : List Entry
  pub starts : es ≡ first ∷ rest
  pub least_first : first.0 ≡ o.least
  pub size : length es ≡ n
  pub some : 2 ≤ n
  pub few : n ≤ 26

pub root-parts : (o : KeyOrdering) (c : List ℕ) → root_form o c ≡ true → Root o (count c) (entries c)
root-parts o c h =
    let a = and_parts (eqb (mark c) 2) (leb 2 (count c) && (eqb (opening_key c) o.least && (fresh (count c) (λ _. false) (entries c) && well_formed o c))) h in
    let b = and_parts (leb 2 (count c)) (eqb (opening_key c) o.least && (fresh (count c) (λ _. false) (entries c) && well_formed o c)) a.1 in
    let d = and_parts (eqb (opening_key c) o.least) (fresh (count c) (λ _. false) (entries c) && well_formed o c) b.1 in
    let e = and_parts (fresh (count c) (λ _. false) (entries c)) (well_formed o c) d.1 in
    let two = leb-true 2 (count c) b.0 in
    record {
      rises = well-rises o c e.1;
      values = e.0;
      first = entry_at c 0;
      rest = from c (count c) 1;
      starts = sym (from_all c (count c) refl) ∙ from_more c (count c) 0 (omega arith);
      least_first = eqb-true (opening_key c) o.least d.0;
      size = count_entries c;
      some = two;
      few = well-few o c e.1;
    }

module _ (o : KeyOrdering) (t : TotalOrder o) (n : ℕ) (es : List Entry) (r : Root o n es) where
  -- every key leads to one of the pages 1 to n
  pub root-leads : (k : ℕ) → (1 ≤ last_up_to o k 0 es) × (last_up_to o k 0 es ≤ n)
  root-leads k =
      let range = fresh-range n (λ _. false) (r.first ∷ r.rest) (ap (fresh n (λ _. false)) (sym r.starts) ∙ r.values) in
      let up : o.less k r.first.0 ≡ false = ap (o.less k) r.least_first ∙ t.from_least k in
      let e : last_up_to o k 0 es ≡ last_up_to o k r.first.1 r.rest = ap (last_up_to o k 0) r.starts ∙ ap (λ y. last_up_to o k y r.rest) (cond-false (o.less k r.first.0) 0 r.first.1 up) in
      subst (λ x. (1 ≤ x) × (x ≤ n)) (sym e) (last-all o t (λ v. (1 ≤ v) × (v ≤ n)) k r.first.1 r.rest range.0 range.1)

  pub root-apart : Apart 0 es
  root-apart = fresh-apart n 0 (λ _. false) es r.values (All-weaker (λ e. (1 ≤ e.1) × (e.1 ≤ n)) (λ e. e.1 ≡ 0 → ⊥) (λ e h q. omega arith) es (fresh-range n (λ _. false) es r.values))

  put-more : (k v : ℕ) (xs : List Entry) → absent k xs ≡ true → length (put o k v xs) ≡ suc (length xs)
  put-more k v [] a = refl
  put-more k v (e ∷ xs) a =
      let p = absent-parts k e xs a in
      let ih = put-more k v xs p.1 in
      put-by (λ ys. length ys ≡ suc (suc (length xs))) o k v e xs (λ same. absurd (both_ways (eqb e.0 k) p.0 same)) (λ _ _. refl) (λ _ _. ap suc ih)

  -- a root with a new key and the next page
  pub root-put : (m q : ℕ) → absent m es ≡ true → q ≡ n + 1 → q ≤ 26 → Root o q (put o m q es)
  root-put m q a e l =
      let some = r.some in
      let begins : put o m q (r.first ∷ r.rest) ≡ r.first ∷ put o m q r.rest = put-by (λ ys. ys ≡ r.first ∷ put o m q r.rest) o m q r.first r.rest
      (λ same. absurd (both_ways (eqb r.first.0 m) (absent-parts m r.first r.rest (ap (absent m) (sym r.starts) ∙ a)).0 same))
      (λ _ less. absurd (both_ways (o.less m r.first.0) (ap (o.less m) r.least_first ∙ t.from_least m) less))
      (λ _ _. refl) in
      let longer = put-more m q es a in
      let size = r.size in
      record {
        rises = (puts o t).rises m q es r.rises;
        values = fresh-put o n q q m (λ _. false) es (omega arith) (omega arith) (omega arith) refl a r.values;
        first = r.first;
        rest = put o m q r.rest;
        starts = ap (put o m q) r.starts ∙ begins;
        least_first = r.least_first;
        size = omega arith;
        some = omega arith;
        few = l;
      }

-- the first root
pub root-two : (o : KeyOrdering) (m : ℕ) → o.less o.least m ≡ true → Root o 2 ((o.least, 1) ∷ ((m, 2) ∷ []))
root-two o m l = record {
  rises = and_from (o.less o.least m) true l refl;
  values = refl;
  first = (o.least, 1);
  rest = (m, 2) ∷ [];
  starts = refl;
  least_first = refl;
  size = refl;
  some = omega arith;
  few = omega arith;
}

-- ---- pages that are written

-- a leaf of entries es
pub record LeafOf (o : KeyOrdering) (es : List Entry) (c : List ℕ) : Type 0 where
  pub leaf : leaf_form o c ≡ true
  pub holds : entries c ≡ es
  pub words : Words es
  pub sized : length c ≡ 224

zeros : (m : ℕ) (es : List Entry) (c : List ℕ) → (get_or (renew m es c) 2 0 ≡ 0) × (get_or (renew m es c) 3 0 ≡ 0)
unfolding renew
zeros m es c = (refl, refl)

renew-well : (o : KeyOrdering) (m : ℕ) (es : List Entry) (c : List ℕ) → rising o es ≡ true → length es ≤ 26 → Words es → well_formed o (renew m es c) ≡ true
renew-well o m es c rise l w =
    let z = zeros m es c in
    let d = codec m es c w in
    let n = d.1 in
    and_from (eqb (get_or (renew m es c) 2 0) 0) (eqb (get_or (renew m es c) 3 0) 0 && (leb (count (renew m es c)) 26 && rising o (entries (renew m es c)))) (eq-eqb (get_or (renew m es c) 2 0) 0 z.0)
    (and_from (eqb (get_or (renew m es c) 3 0) 0) (leb (count (renew m es c)) 26 && rising o (entries (renew m es c))) (eq-eqb (get_or (renew m es c) 3 0) 0 z.1)
    (and_from (leb (count (renew m es c)) 26) (rising o (entries (renew m es c))) (le-leb (count (renew m es c)) 26 (omega arith)) (ap (rising o) d.2 ∙ rise)))

pub leaf-renew : (o : KeyOrdering) (es : List Entry) (c : List ℕ) → rising o es ≡ true → length es ≤ 26 → Words es → length c ≡ 224 → count c ≤ 26 → LeafOf o es (renew 1 es c)
leaf-renew o es c rise l w lc few =
    let d = codec 1 es c w in
    record {
      leaf = and_from (eqb (mark (renew 1 es c)) 1 || (eqb (mark (renew 1 es c)) 0 && eqb (count (renew 1 es c)) 0)) (well_formed o (renew 1 es c)) (or_left (eqb (mark (renew 1 es c)) 1) (eqb (mark (renew 1 es c)) 0 && eqb (count (renew 1 es c)) 0) (eq-eqb (mark (renew 1 es c)) 1 d.0)) (renew-well o 1 es c rise l w);
      holds = d.2;
      words = w;
      sized = renew-length 1 es c lc few l;
    }

pub root-renew : (o : KeyOrdering) (n : ℕ) (es : List Entry) (c : List ℕ) → Root o n es → Words es → (root_form o (renew 2 es c) ≡ true) × (entries (renew 2 es c) ≡ es) × (count (renew 2 es c) ≡ n)
root-renew o n es c r w =
    let d = codec 2 es c w in
    let some = r.some in
    let few = r.few in
    let size = r.size in
    let x = renew 2 es c in
    let nx : count x ≡ n = d.1 ∙ size in
    let start : opening_key x ≡ o.least = first_key x r.first r.rest (d.2 ∙ r.starts) ∙ r.least_first in
    let vals : fresh (count x) (λ _. false) (entries x) ≡ true = ap (λ k. fresh k (λ _. false) (entries x)) nx ∙ ap (fresh n (λ _. false)) d.2 ∙ r.values in (
      and_from (eqb (mark x) 2) (leb 2 (count x) && (eqb (opening_key x) o.least && (fresh (count x) (λ _. false) (entries x) && well_formed o x))) (eq-eqb (mark x) 2 d.0)
          (and_from (leb 2 (count x)) (eqb (opening_key x) o.least && (fresh (count x) (λ _. false) (entries x) && well_formed o x)) (le-leb 2 (count x) (omega arith))
          (and_from (eqb (opening_key x) o.least) (fresh (count x) (λ _. false) (entries x) && well_formed o x) (eq-eqb (opening_key x) o.least start)
          (and_from (fresh (count x) (λ _. false) (entries x)) (well_formed o x) vals (renew-well o 2 es c r.rises (omega arith) w)))),
      d.2,
      nx,
    )
