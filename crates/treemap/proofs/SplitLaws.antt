-- Splits keep the tree and the map. Each law is between the pages s before a step and the pages u after it.
use Rattle.std.proofs.Common.{◌≡◌, ℕ, ◌+◌, ◌^◌, ◌<◌, ◌≤◌, true, false, cond, ◌⊎◌, List, [], ◌∷◌, length, take, drop, Some, sym, refl, ap, ◌∙◌, subst, inl, inr, arith}
use Rattle.std.proofs.ByRecursion.{All-weaker, All-take, All-drop}
use Rattle.std.proofs.lemmas.List.{length-take, length-drop}
use Rattle.std.proofs.lemmas.Bool.{cases_Bool, cases_eq, cases_lt, cond-true, cond-false, eq-eqb}
use Rattle.tree.specs.Orders.{KeyOrdering, TotalOrder}
use Rattle.tree.specs.Nodes.{Entry, find, absent, put, count, entries, renew, root_form, middle_key}
use Rattle.tree.specs.Laws.{Words}
use Rattle.tree.specs.TreeLaws.{leaf-few}
use Rattle.treemap.specs.Lookups.{Pages, last_up_to, leaf_page, lookup}
use Rattle.treemap.proofs.RouteLaws.{find-same, find-key, present-some, last-put_below, last-put_from, last-find, last-lower}
use Rattle.treemap.proofs.HalfLaws.{Halves, halves, rising-take, rising-drop, least-below, put-words}
use Rattle.treemap.proofs.FormLaws.{count_entries, leaf-rises, leaf-no_root, middle-heads, Root, root-parts, root-leads, root-apart, root-put, root-two, LeafOf, leaf-renew, root-renew}
use Rattle.treemap.proofs.TreeInvariantLaws.{Leaf, leaf-at, leaf-any, leaf-alone, leaf-root, lookup-at, Rooted}

-- ---- a full leaf in two halves

module _ (o : KeyOrdering) (t : TotalOrder o) (c : List ℕ) (l : Leaf o c) (full : count c ≡ 26) where
  pub full_halves : Halves o t 13 (middle_key c) (entries c)
  full_halves = let m = middle-heads c full in halves o t 13 (middle_key c) m.0 (entries c) m.1 (leaf-rises o c l.leaf) m.2

  pub lower-length : length (take 13 (entries c)) ≡ 13
  lower-length = let n = count_entries c in length-take 13 (entries c) ∙ omega arith

  pub upper-length : length (drop 13 (entries c)) ≡ 13
  upper-length = let n = count_entries c in length-drop 13 (entries c) ∙ omega arith

  pub middle-word : middle_key c < 2 ^ 32
  middle-word = let f = full_halves.middle-found in find-key (λ x. x < 2 ^ 32) (middle_key c) f.0 (entries c) (All-weaker (λ e. (e.0 < 2 ^ 32) × (e.1 < 2 ^ 32)) (λ e. e.0 < 2 ^ 32) (λ e h. h.0) (entries c) l.words) f.1

  pub middle-above : o.less o.least (middle_key c) ≡ true
  middle-above = let m = middle-heads c full in least-below o t 13 (middle_key c) m.0 (entries c) m.1 (omega arith) (leaf-rises o c l.leaf) m.2

  -- the halves as leaves of their own
  pub lower-leaf : (d : List ℕ) → length d ≡ 224 → count d ≤ 26 → LeafOf o (take 13 (entries c)) (renew 1 (take 13 (entries c)) d)
  lower-leaf d n few = let h = lower-length in leaf-renew o (take 13 (entries c)) d (rising-take o t 13 (entries c) (leaf-rises o c l.leaf)) (omega arith) (All-take (λ e. (e.0 < 2 ^ 32) × (e.1 < 2 ^ 32)) 13 (entries c) l.words) n few

  pub upper-leaf : (d : List ℕ) → length d ≡ 224 → count d ≤ 26 → LeafOf o (drop 13 (entries c)) (renew 1 (drop 13 (entries c)) d)
  upper-leaf d n few = let h = upper-length in leaf-renew o (drop 13 (entries c)) d (rising-drop o t 13 (entries c) (leaf-rises o c l.leaf)) (omega arith) (All-drop (λ e. (e.0 < 2 ^ 32) × (e.1 < 2 ^ 32)) 13 (entries c) l.words) n few

-- ---- page 0 becomes a root

module _ (o : KeyOrdering) (t : TotalOrder o) (small : o.least < 2 ^ 32) (s u : Pages) (a : Leaf o (s 0)) (full : count (s 0) ≡ 26)
    (low : LeafOf o (take 13 (entries (s 0))) (s 1)) (high : LeafOf o (drop 13 (entries (s 0))) (s 2))
    (there : u 0 ≡ renew 2 ((o.least, 1) ∷ ((middle_key (s 0), 2) ∷ [])) (s 0)) (others : (q : ℕ) → (q ≡ 0 → ⊥) → u q ≡ s q) where
  grown : (root_form o (u 0) ≡ true) × (entries (u 0) ≡ (o.least, 1) ∷ ((middle_key (s 0), 2) ∷ [])) × (count (u 0) ≡ 2)
  grown =
      let m = middle-word o t (s 0) a full in
      let r = root-renew o 2 ((o.least, 1) ∷ ((middle_key (s 0), 2) ∷ [])) (s 0) (root-two o (middle_key (s 0)) (middle-above o t (s 0) a full)) ((small, omega arith), ((m, omega arith), tt)) in
      (ap (root_form o) there ∙ r.0, ap entries there ∙ r.1, ap count there ∙ r.2)

  side : (k : ℕ) → leaf_page o u k ≡ cond (o.less k (middle_key (s 0))) 1 2
  side k = leaf-root o u k grown.0 ∙ ap (last_up_to o k 0) grown.1 ∙ ap (λ b. cond (o.less k (middle_key (s 0))) (cond b 0 1) 2) (t.from_least k)

  low-side : (k : ℕ) → o.less k (middle_key (s 0)) ≡ true → leaf_page o u k ≡ 1
  low-side k h = side k ∙ cond-true (o.less k (middle_key (s 0))) 1 2 h

  high-side : (k : ℕ) → o.less k (middle_key (s 0)) ≡ false → leaf_page o u k ≡ 2
  high-side k h = side k ∙ cond-false (o.less k (middle_key (s 0))) 1 2 h

  low-there : LeafOf o (take 13 (entries (s 0))) (u 1)
  low-there = leaf-at o (take 13 (entries (s 0))) (s 1) (u 1) (others 1 (λ e. omega arith)) low

  high-there : LeafOf o (drop 13 (entries (s 0))) (u 2)
  high-there = leaf-at o (drop 13 (entries (s 0))) (s 2) (u 2) (others 2 (λ e. omega arith)) high

  pub grow-rooted : Rooted o u
  grow-rooted =
      let m = middle-word o t (s 0) a full in
      let n = grown.2 in
      record {
        root = grown.0;
        root-words = subst Words (sym grown.1) ((small, omega arith), ((m, omega arith), tt));
        leaves = λ p x y. leaves' p (cases_eq p 1) x (omega arith);
        lead = λ p k r x y h. lead' p k r (cases_eq p 1) x (omega arith) h;
      }
    where
      two : (p : ℕ) → (p ≡ 1 → ⊥) → 1 ≤ p → p ≤ 2 → p ≡ 2
      two p ne x y = elim (cases_lt p 2) [ inl l ↦ absurd (ne (omega arith)) | inr g ↦ omega arith ]

      leaves' : (p : ℕ) → (p ≡ 1) ⊎ (p ≡ 1 → ⊥) → 1 ≤ p → p ≤ 2 → Leaf o (u p)
      leaves' p (inl e) x y = subst (λ q. Leaf o (u q)) (sym e) (leaf-any o (take 13 (entries (s 0))) (u 1) low-there)
      leaves' p (inr ne) x y = let e : p ≡ 2 = two p ne x y in subst (λ q. Leaf o (u q)) (sym e) (leaf-any o (drop 13 (entries (s 0))) (u 2) high-there)

      lead' : (p k r : ℕ) → (p ≡ 1) ⊎ (p ≡ 1 → ⊥) → 1 ≤ p → p ≤ 2 → find k (entries (u p)) ≡ Some r → leaf_page o u k ≡ p
      lead' p k r (inl e) x y h = low-side k ((full_halves o t (s 0) a full).low_below k r (ap (find k) (sym low-there.holds) ∙ ap (λ q. find k (entries (u q))) (sym e) ∙ h)) ∙ sym e
      lead' p k r (inr ne) x y h =
          let e : p ≡ 2 = two p ne x y in
          high-side k ((full_halves o t (s 0) a full).high-from k r (ap (find k) (sym high-there.holds) ∙ ap (λ q. find k (entries (u q))) (sym e) ∙ h)) ∙ sym e

  pub grow-map : (k : ℕ) → lookup o u k ≡ lookup o s k
  grow-map k = go (cases_Bool (o.less k (middle_key (s 0)))) ∙ sym (lookup-at o s k 0 (leaf-alone o s k (leaf-no_root o (s 0) a.leaf)))
    where
      go : (o.less k (middle_key (s 0)) ≡ true) ⊎ (o.less k (middle_key (s 0)) ≡ false) → lookup o u k ≡ find k (entries (s 0))
      go (inl y) = lookup-at o u k 1 (low-side k y) ∙ ap (find k) low-there.holds ∙ (full_halves o t (s 0) a full).low-found k y
      go (inr n) = lookup-at o u k 2 (high-side k n) ∙ ap (find k) high-there.holds ∙ (full_halves o t (s 0) a full).high-found k n

  -- every key's leaf has 13 entries
  pub grow-room : (k : ℕ) → length (entries (u (leaf_page o u k))) ≡ 13
  grow-room k = go (cases_Bool (o.less k (middle_key (s 0))))
    where
      go : (o.less k (middle_key (s 0)) ≡ true) ⊎ (o.less k (middle_key (s 0)) ≡ false) → length (entries (u (leaf_page o u k))) ≡ 13
      go (inl y) = ap (λ q. length (entries (u q))) (low-side k y) ∙ ap length low-there.holds ∙ lower-length o t (s 0) a full
      go (inr n) = ap (λ q. length (entries (u q))) (high-side k n) ∙ ap length high-there.holds ∙ upper-length o t (s 0) a full

-- ---- the middle key of a full leaf is not in the root

pub middle-away : (o : KeyOrdering) → TotalOrder o → (s : Pages) → Rooted o s → (p : ℕ) → 1 ≤ p → p ≤ count (s 0) → count (s p) ≡ 26 → absent (middle_key (s p)) (entries (s 0)) ≡ true
middle-away o t s r p low up full = elim (cases_Bool (absent (middle_key (s p)) (entries (s 0)))) [ inl y ↦ y | inr n ↦ absurd (there (present-some (middle_key (s p)) (entries (s 0)) n)) ]
  where
    root : Root o (count (s 0)) (entries (s 0))
    root = root-parts o (s 0) r.root

    h : Halves o t 13 (middle_key (s p)) (entries (s p))
    h = full_halves o t (s p) (r.leaves p low up) full

    first : (es : List Entry) → length es ≡ 13 → (e : Entry) × (rest : List Entry) × (es ≡ e ∷ rest)
    first [] n = absurd (omega arith)
    first (e ∷ rest) n = (e, rest, refl)

    -- the first key of the leaf is below the middle key and leads to the leaf too
    there : (q : ℕ) × (find (middle_key (s p)) (entries (s 0)) ≡ Some q) → ⊥
    there (q, found) =
        let f = first (take 13 (entries (s p))) (lower-length o t (s p) (r.leaves p low up) full) in
        let k = f.0.0 in
        let here : find k (take 13 (entries (s p))) ≡ Some f.0.1 = ap (find k) f.2 ∙ find_first f.0 f.1 in
        let below : o.less k (middle_key (s p)) ≡ true = h.low_below k f.0.1 here in
        let kp : last_up_to o k 0 (entries (s 0)) ≡ p = sym (leaf-root o s k r.root) ∙ r.lead p k f.0.1 low up (sym (h.low-found k below) ∙ here) in
        let mp : last_up_to o (middle_key (s p)) 0 (entries (s 0)) ≡ p = sym (leaf-root o s (middle_key (s p)) r.root) ∙ r.lead p (middle_key (s p)) h.middle-found.0 low up h.middle-found.1 in
        let qp : q ≡ p = sym (last-find o t (middle_key (s p)) q 0 (entries (s 0)) root.rises found) ∙ mp in
        last-lower o t k (middle_key (s p)) q 0 (entries (s 0)) root.rises (root-apart o t (count (s 0)) (entries (s 0)) root) (λ z. omega arith) found below (kp ∙ sym qp)
      where
        find_first : (e : Entry) (rest : List Entry) → find e.0 (e ∷ rest) ≡ Some e.1
        find_first e rest = find-same e.0 e rest (eq-eqb e.0 e.0 refl)

-- ---- a leaf under the root is cut

-- under any root
module _ (o : KeyOrdering) (t : TotalOrder o) (s u : Pages) (root : root_form o (s 0) ≡ true) (root-words : Words (entries (s 0))) (p q : ℕ) (low : 1 ≤ p) (up : p ≤ count (s 0)) (leaf : Leaf o (s p)) (full : count (s p) ≡ 26)
    (away : absent (middle_key (s p)) (entries (s 0)) ≡ true) (next : q ≡ count (s 0) + 1) (few : q ≤ 26) (upper : LeafOf o (drop 13 (entries (s p))) (s q))
    (at-root : u 0 ≡ renew 2 (put o (middle_key (s p)) q (entries (s 0))) (s 0)) (at_leaf : u p ≡ renew 1 (take 13 (entries (s p))) (s p)) (others : (x : ℕ) → (x ≡ 0 → ⊥) → (x ≡ p → ⊥) → u x ≡ s x) where
  pub wider-words : Words (put o (middle_key (s p)) q (entries (s 0)))
  wider-words = put-words o (middle_key (s p)) q (entries (s 0)) (middle-word o t (s p) leaf full) (omega arith) root-words

  pub wider-root : (root_form o (u 0) ≡ true) × (entries (u 0) ≡ put o (middle_key (s p)) q (entries (s 0))) × (count (u 0) ≡ q)
  wider-root =
      let w = root-renew o q (put o (middle_key (s p)) q (entries (s 0))) (s 0) (root-put o t (count (s 0)) (entries (s 0)) (root-parts o (s 0) root) (middle_key (s p)) q away next few) wider-words in
      (ap (root_form o) at-root ∙ w.0, ap entries at-root ∙ w.1, ap count at-root ∙ w.2)

  pub wider-leads : (k : ℕ) → leaf_page o u k ≡ last_up_to o k 0 (put o (middle_key (s p)) q (entries (s 0)))
  wider-leads k = leaf-root o u k wider-root.0 ∙ ap (last_up_to o k 0) wider-root.1

  pub below-stay : (k : ℕ) → o.less k (middle_key (s p)) ≡ true → leaf_page o u k ≡ leaf_page o s k
  below-stay k y = wider-leads k ∙ last-put_below o t k (middle_key (s p)) q 0 (entries (s 0)) away y ∙ sym (leaf-root o s k root)

  pub lower-there : LeafOf o (take 13 (entries (s p))) (u p)
  lower-there = leaf-at o (take 13 (entries (s p))) (renew 1 (take 13 (entries (s p))) (s p)) (u p) at_leaf (lower-leaf o t (s p) leaf full (s p) leaf.sized (leaf-few o (s p) leaf.leaf))

  pub upper-there : LeafOf o (drop 13 (entries (s p))) (u q)
  upper-there = leaf-at o (drop 13 (entries (s p))) (s q) (u q) (others q (λ e. omega arith) (λ e. omega arith)) upper

  -- a key that led to the leaf that is cut leads to one of its halves
  pub cut-half : (k : ℕ) → leaf_page o s k ≡ p → (es : List Entry) × LeafOf o es (u (leaf_page o u k)) × (length es ≡ 13)
  cut-half k e = go (cases_Bool (o.less k (middle_key (s p)))) (cases_eq (last_up_to o k 0 (entries (s 0))) (last_up_to o (middle_key (s p)) 0 (entries (s 0))))
    where
      Half : ℕ → Type 0
      Half x = (es : List Entry) × LeafOf o es (u x) × (length es ≡ 13)

      low_half : Half p
      low_half = (take 13 (entries (s p)), lower-there, lower-length o t (s p) leaf full)

      from-middle : o.less k (middle_key (s p)) ≡ false → (last_up_to o k 0 (entries (s 0)) ≡ last_up_to o (middle_key (s p)) 0 (entries (s 0)) → last_up_to o k 0 (put o (middle_key (s p)) q (entries (s 0))) ≡ q)
          × ((last_up_to o k 0 (entries (s 0)) ≡ last_up_to o (middle_key (s p)) 0 (entries (s 0)) → ⊥) → last_up_to o k 0 (put o (middle_key (s p)) q (entries (s 0))) ≡ last_up_to o k 0 (entries (s 0)))
      from-middle n = last-put_from o t k (middle_key (s p)) q 0 (entries (s 0)) (root-parts o (s 0) root).rises away (root-apart o t (count (s 0)) (entries (s 0)) (root-parts o (s 0) root)) n

      go : (o.less k (middle_key (s p)) ≡ true) ⊎ (o.less k (middle_key (s p)) ≡ false) → (last_up_to o k 0 (entries (s 0)) ≡ last_up_to o (middle_key (s p)) 0 (entries (s 0))) ⊎ (last_up_to o k 0 (entries (s 0)) ≡ last_up_to o (middle_key (s p)) 0 (entries (s 0)) → ⊥) → Half (leaf_page o u k)
      go (inl y) _ = subst Half (sym (below-stay k y ∙ e)) low_half
      go (inr n) (inl same) = subst Half (sym (wider-leads k ∙ (from-middle n).0 same)) (drop 13 (entries (s p)), upper-there, upper-length o t (s p) leaf full)
      go (inr n) (inr other) = subst Half (sym (wider-leads k ∙ (from-middle n).1 other ∙ sym (leaf-root o s k root) ∙ e)) low_half

-- in a tree
module _ (o : KeyOrdering) (t : TotalOrder o) (s u : Pages) (r : Rooted o s) (p q : ℕ) (low : 1 ≤ p) (up : p ≤ count (s 0)) (full : count (s p) ≡ 26) (next : q ≡ count (s 0) + 1) (few : q ≤ 26)
    (upper : LeafOf o (drop 13 (entries (s p))) (s q))
    (at-root : u 0 ≡ renew 2 (put o (middle_key (s p)) q (entries (s 0))) (s 0)) (at_leaf : u p ≡ renew 1 (take 13 (entries (s p))) (s p)) (others : (x : ℕ) → (x ≡ 0 → ⊥) → (x ≡ p → ⊥) → u x ≡ s x) where
  away : absent (middle_key (s p)) (entries (s 0)) ≡ true
  away = middle-away o t s r p low up full

  root : Root o (count (s 0)) (entries (s 0))
  root = root-parts o (s 0) r.root

  h : Halves o t 13 (middle_key (s p)) (entries (s p))
  h = full_halves o t (s p) (r.leaves p low up) full

  wider : (root_form o (u 0) ≡ true) × (entries (u 0) ≡ put o (middle_key (s p)) q (entries (s 0))) × (count (u 0) ≡ q)
  wider = wider-root o t s u r.root r.root-words p q low up (r.leaves p low up) full away next few upper at-root at_leaf others

  led : (k : ℕ) → leaf_page o u k ≡ last_up_to o k 0 (put o (middle_key (s p)) q (entries (s 0)))
  led k = wider-leads o t s u r.root r.root-words p q low up (r.leaves p low up) full away next few upper at-root at_leaf others k

  middle-here : last_up_to o (middle_key (s p)) 0 (entries (s 0)) ≡ p
  middle-here = sym (leaf-root o s (middle_key (s p)) r.root) ∙ r.lead p (middle_key (s p)) h.middle-found.0 low up h.middle-found.1

  below : (k : ℕ) → o.less k (middle_key (s p)) ≡ true → leaf_page o u k ≡ leaf_page o s k
  below k y = below-stay o t s u r.root r.root-words p q low up (r.leaves p low up) full away next few upper at-root at_leaf others k y

  moved : (k : ℕ) → o.less k (middle_key (s p)) ≡ false → leaf_page o s k ≡ p → leaf_page o u k ≡ q
  moved k n e = led k ∙ (last-put_from o t k (middle_key (s p)) q 0 (entries (s 0)) root.rises away (root-apart o t (count (s 0)) (entries (s 0)) root) n).0 (sym (leaf-root o s k r.root) ∙ e ∙ sym middle-here)

  kept : (k : ℕ) → (leaf_page o s k ≡ p → ⊥) → leaf_page o u k ≡ leaf_page o s k
  kept k ne = elim (cases_Bool (o.less k (middle_key (s p)))) [
    | inl y ↦ below k y
    | inr n ↦ led k ∙ (last-put_from o t k (middle_key (s p)) q 0 (entries (s 0)) root.rises away (root-apart o t (count (s 0)) (entries (s 0)) root) n).1 (λ e. ne (leaf-root o s k r.root ∙ e ∙ middle-here)) ∙ sym (leaf-root o s k r.root)
  ]

  low_half : LeafOf o (take 13 (entries (s p))) (u p)
  low_half = lower-there o t s u r.root r.root-words p q low up (r.leaves p low up) full away next few upper at-root at_leaf others

  high_half : LeafOf o (drop 13 (entries (s p))) (u q)
  high_half = upper-there o t s u r.root r.root-words p q low up (r.leaves p low up) full away next few upper at-root at_leaf others

  pub cut-rooted : Rooted o u
  cut-rooted = record {
    root = wider.0;
    root-words = subst Words (sym wider.1) (wider-words o t s u r.root r.root-words p q low up (r.leaves p low up) full away next few upper at-root at_leaf others);
    leaves = λ x a b. leaves' x a (omega (arith, wider.2)) (cases_eq x p) (cases_eq x q);
    lead = λ x k v a b f. lead' x k v a (omega (arith, wider.2)) f (cases_eq x p) (cases_eq x q);
  }
    where
      inner : (x : ℕ) → x ≤ q → (x ≡ q → ⊥) → x ≤ count (s 0)
      inner x b nq = elim (cases_lt x q) [ inl l ↦ omega arith | inr g ↦ absurd (nq (omega arith)) ]

      leaves' : (x : ℕ) → 1 ≤ x → x ≤ q → (x ≡ p) ⊎ (x ≡ p → ⊥) → (x ≡ q) ⊎ (x ≡ q → ⊥) → Leaf o (u x)
      leaves' x a b (inl e) _ = subst (λ y. Leaf o (u y)) (sym e) (leaf-any o (take 13 (entries (s p))) (u p) low_half)
      leaves' x a b (inr ne) (inl e) = subst (λ y. Leaf o (u y)) (sym e) (leaf-any o (drop 13 (entries (s p))) (u q) high_half)
      leaves' x a b (inr ne) (inr nq) = subst (Leaf o) (sym (others x (λ e. omega arith) ne)) (r.leaves x a (inner x b nq))

      lead' : (x k v : ℕ) → 1 ≤ x → x ≤ q → find k (entries (u x)) ≡ Some v → (x ≡ p) ⊎ (x ≡ p → ⊥) → (x ≡ q) ⊎ (x ≡ q → ⊥) → leaf_page o u k ≡ x
      lead' x k v a b f (inl e) _ =
          let low-one : find k (take 13 (entries (s p))) ≡ Some v = ap (find k) (sym low_half.holds) ∙ ap (λ y. find k (entries (u y))) (sym e) ∙ f in
          let y = h.low_below k v low-one in
          below k y ∙ r.lead p k v low up (sym (h.low-found k y) ∙ low-one) ∙ sym e
      lead' x k v a b f (inr ne) (inl e) =
          let high_one : find k (drop 13 (entries (s p))) ≡ Some v = ap (find k) (sym high_half.holds) ∙ ap (λ y. find k (entries (u y))) (sym e) ∙ f in
          let n = h.high-from k v high_one in
          moved k n (r.lead p k v low up (sym (h.high-found k n) ∙ high_one)) ∙ sym e
      lead' x k v a b f (inr ne) (inr nq) =
          let there : leaf_page o s k ≡ x = r.lead x k v a (inner x b nq) (ap (λ c. find k (entries c)) (sym (others x (λ e. omega arith) ne)) ∙ f) in
          kept k (λ e. ne (sym there ∙ e)) ∙ there

  pub cut-map : (k : ℕ) → lookup o u k ≡ lookup o s k
  cut-map k = go (cases_eq (leaf_page o s k) p) (cases_Bool (o.less k (middle_key (s p))))
    where
      go : (leaf_page o s k ≡ p) ⊎ (leaf_page o s k ≡ p → ⊥) → (o.less k (middle_key (s p)) ≡ true) ⊎ (o.less k (middle_key (s p)) ≡ false) → lookup o u k ≡ lookup o s k
      go (inl e) (inl y) = lookup-at o u k p (below k y ∙ e) ∙ ap (find k) low_half.holds ∙ h.low-found k y ∙ sym (lookup-at o s k p e)
      go (inl e) (inr n) = lookup-at o u k q (moved k n e) ∙ ap (find k) high_half.holds ∙ h.high-found k n ∙ sym (lookup-at o s k p e)
      go (inr ne) _ =
          let l = root-leads o t (count (s 0)) (entries (s 0)) root k in
          let e = leaf-root o s k r.root in
          lookup-at o u k (leaf_page o s k) (kept k ne) ∙ ap (λ c. find k (entries c)) (others (leaf_page o s k) (λ z. omega arith) ne) ∙ sym (lookup-at o s k (leaf_page o s k) refl)

  pub cut-room : (k : ℕ) → leaf_page o s k ≡ p → length (entries (u (leaf_page o u k))) ≡ 13
  cut-room k e = let c = cut-half o t s u r.root r.root-words p q low up (r.leaves p low up) full away next few upper at-root at_leaf others k e in ap length c.1.holds ∙ c.2
