-- Pages that are a tree, and what keeps them so. Each law is between the pages s before a change and the pages u after it.
use Rattle.std.proofs.Common.{◌≡◌, ℕ, ◌^◌, ◌<◌, ◌≤◌, true, false, cond, eqb, ◌⊎◌, List, length, Some, sym, refl, ap, ◌∙◌, subst, inl, inr, arith}
use Rattle.std.proofs.lemmas.Bool.{cases_Bool, cases_eq, cases_lt, cond-true, cond-false, cond_both, eq-eqb, ne_eqb, both_ways, and_cases}
use Rattle.tree.specs.Orders.{KeyOrdering, TotalOrder}
use Rattle.tree.specs.Nodes.{Entry, find, absent, put, count, entries, renew, leaf_form, full_leaf, root_form}
use Rattle.tree.specs.Laws.{Words}
use Rattle.tree.proofs.MapLaws.{puts}
use Rattle.tree.specs.NodeLaws.{put-length}
use Rattle.tree.specs.TreeLaws.{leaf-few}
use Rattle.treemap.specs.Lookups.{Pages, last_up_to, leaf_page, lookup}
use Rattle.treemap.specs.Plans.{splits}
use Rattle.treemap.proofs.HalfLaws.{put-present, put-words}
use Rattle.treemap.proofs.FormLaws.{count_entries, leaf-rises, full_from, leaf-no_root, root-parts, root-leads, LeafOf, leaf-renew}

-- ---- leaves

abbrev pub Leaf : KeyOrdering → List ℕ → Type 0
Leaf o c = LeafOf o (entries c) c

pub leaf-at : (o : KeyOrdering) (es : List Entry) (c d : List ℕ) → d ≡ c → LeafOf o es c → LeafOf o es d
leaf-at o es c d e l = subst (LeafOf o es) (sym e) l

pub leaf-any : (o : KeyOrdering) (es : List Entry) (c : List ℕ) → LeafOf o es c → Leaf o c
leaf-any o es c l = record { leaf = l.leaf; holds = refl; words = subst Words (sym l.holds) l.words; sized = l.sized }

-- ---- where a key is looked for

pub leaf-alone : (o : KeyOrdering) (s : Pages) (k : ℕ) → root_form o (s 0) ≡ false → leaf_page o s k ≡ 0
unfolding leaf_page
leaf-alone o s k h = cond-false (root_form o (s 0)) (last_up_to o k 0 (entries (s 0))) 0 h

pub leaf-root : (o : KeyOrdering) (s : Pages) (k : ℕ) → root_form o (s 0) ≡ true → leaf_page o s k ≡ last_up_to o k 0 (entries (s 0))
unfolding leaf_page
leaf-root o s k h = cond-true (root_form o (s 0)) (last_up_to o k 0 (entries (s 0))) 0 h

pub leaf-like : (o : KeyOrdering) (s u : Pages) (k : ℕ) → u 0 ≡ s 0 → leaf_page o u k ≡ leaf_page o s k
unfolding leaf_page
leaf-like o s u k e = ap (λ c. cond (root_form o c) (last_up_to o k 0 (entries c)) 0) e

pub lookup-at : (o : KeyOrdering) (s : Pages) (k p : ℕ) → leaf_page o s k ≡ p → lookup o s k ≡ find k (entries (s p))
unfolding lookup
lookup-at o s k p e = ap (λ x. find k (entries (s x))) e

-- the last page under the root
abbrev pub top : KeyOrdering → Pages → ℕ
top o s = cond (root_form o (s 0)) (count (s 0)) 0

pub leaf-top : (o : KeyOrdering) → TotalOrder o → (s : Pages) (k : ℕ) → leaf_page o s k ≤ top o s
leaf-top o t s k = go (cases_Bool (root_form o (s 0)))
  where
    go : (root_form o (s 0) ≡ true) ⊎ (root_form o (s 0) ≡ false) → leaf_page o s k ≤ top o s
    go (inl y) = let e = leaf-root o s k y in let l = root-leads o t (count (s 0)) (entries (s 0)) (root-parts o (s 0) y) k in let n = cond-true (root_form o (s 0)) (count (s 0)) 0 y in omega arith
    go (inr n) = let e = leaf-alone o s k n in omega arith

pub top-few : (o : KeyOrdering) (s : Pages) → top o s ≤ 26
top-few o s = cond_both (root_form o (s 0)) (count (s 0)) 0 (λ x. x ≤ 26) (λ y. (root-parts o (s 0) y).few) (λ _. omega arith)

-- ---- trees

-- a root over pages 1 to n, each a leaf whose keys lead to it
pub record Rooted (o : KeyOrdering) (s : Pages) : Type 0 where
  pub root : root_form o (s 0) ≡ true
  pub root-words : Words (entries (s 0))
  pub leaves : (p : ℕ) → 1 ≤ p → p ≤ count (s 0) → Leaf o (s p)
  pub lead : (p k r : ℕ) → 1 ≤ p → p ≤ count (s 0) → find k (entries (s p)) ≡ Some r → leaf_page o s k ≡ p

pub record Tree (o : KeyOrdering) (s : Pages) : Type 0 where
  pub sizes : (p : ℕ) → p < 32 → length (s p) ≡ 224
  pub shape : Leaf o (s 0) ⊎ Rooted o s

-- the leaf of every key is a leaf
pub tree-leaf : (o : KeyOrdering) → TotalOrder o → (s : Pages) → Tree o s → (k : ℕ) → Leaf o (s (leaf_page o s k))
tree-leaf o t s tree k = go tree.shape
  where
    go : Leaf o (s 0) ⊎ Rooted o s → Leaf o (s (leaf_page o s k))
    go (inl a) = subst (λ x. Leaf o (s x)) (sym (leaf-alone o s k (leaf-no_root o (s 0) a.leaf))) a
    go (inr r) =
        let l = root-leads o t (count (s 0)) (entries (s 0)) (root-parts o (s 0) r.root) k in
        subst (λ x. Leaf o (s x)) (sym (leaf-root o s k r.root)) (r.leaves (last_up_to o k 0 (entries (s 0))) l.0 l.1)

-- ---- pages outside the tree

pub like-rooted : (o : KeyOrdering) (s u : Pages) → Rooted o s → ((p : ℕ) → p ≤ count (s 0) → u p ≡ s p) → Rooted o u
like-rooted o s u r same =
    let at0 : u 0 ≡ s 0 = same 0 (omega arith) in
    let m : count (u 0) ≡ count (s 0) = ap count at0 in
    record {
      root = ap (root_form o) at0 ∙ r.root;
      root-words = subst (λ c. Words (entries c)) (sym at0) r.root-words;
      leaves = λ p a b. subst (Leaf o) (sym (same p (omega arith))) (r.leaves p a (omega arith));
      lead = λ p k v a b h. leaf-like o s u k at0 ∙ r.lead p k v a (omega arith) (ap (λ c. find k (entries c)) (sym (same p (omega arith))) ∙ h);
    }

module _ (o : KeyOrdering) (t : TotalOrder o) (s u : Pages) (tree : Tree o s) (sizes' : (p : ℕ) → p < 32 → length (u p) ≡ 224) (same : (p : ℕ) → p ≤ top o s → u p ≡ s p) where
  pub like-tree : Tree o u
  like-tree = record { sizes = sizes'; shape = go tree.shape }
    where
      go : Leaf o (s 0) ⊎ Rooted o s → Leaf o (u 0) ⊎ Rooted o u
      go (inl a) = inl (subst (Leaf o) (sym (same 0 (omega arith))) a)
      go (inr r) = let n : top o s ≡ count (s 0) = cond-true (root_form o (s 0)) (count (s 0)) 0 r.root in inr (like-rooted o s u r (λ p l. same p (omega arith)))

  pub like-map : (k : ℕ) → lookup o u k ≡ lookup o s k
  like-map k =
      lookup-at o u k (leaf_page o s k) (leaf-like o s u k (same 0 (omega arith)))
      ∙ ap (λ c. find k (entries c)) (same (leaf_page o s k) (leaf-top o t s k))
      ∙ sym (lookup-at o s k (leaf_page o s k) refl)

-- ---- a key put into its leaf

-- there is room where the leaf need not be split
pub unsplit_room : (o : KeyOrdering) → TotalOrder o → (s : Pages) (k v : ℕ) → leaf_form o (s (leaf_page o s k)) ≡ true → splits o s k ≡ false → length (put o k v (entries (s (leaf_page o s k)))) ≤ 26
unfolding splits
unsplit_room o t s k v leaf no-split =
    let c = s (leaf_page o s k) in
    let few = leaf-few o c leaf in
    let n = count_entries c in
    let m = put-length o t k v (entries c) in
    elim (cases_lt (count c) 26) [
      | inl l ↦ omega arith
      | inr g ↦ let full : count c ≡ 26 = omega arith in elim (and_cases (full_leaf o c) (absent k (entries c)) no-split) [
        | inl a ↦ absurd (both_ways (full_leaf o c) a (full_from o c full leaf))
        | inr b ↦ let e = put-present o t k v (entries c) (leaf-rises o c leaf) b in omega arith
      ]
    ]

module _ (o : KeyOrdering) (t : TotalOrder o) (s u : Pages) (tree : Tree o s) (p k v : ℕ) (lk : k < 2 ^ 32) (lv : v < 2 ^ 32) (home : leaf_page o s k ≡ p) (room : length (put o k v (entries (s p))) ≤ 26)
    (there : u p ≡ renew 1 (put o k v (entries (s p))) (s p)) (others : (q : ℕ) → (q ≡ p → ⊥) → u q ≡ s q) where
  old : Leaf o (s p)
  old = subst (λ x. Leaf o (s x)) home (tree-leaf o t s tree k)

  new : LeafOf o (put o k v (entries (s p))) (u p)
  new = leaf-at o (put o k v (entries (s p))) (renew 1 (put o k v (entries (s p))) (s p)) (u p) there
      (leaf-renew o (put o k v (entries (s p))) (s p) ((puts o t).rises k v (entries (s p)) (leaf-rises o (s p) old.leaf)) room (put-words o k v (entries (s p)) lk lv old.words) old.sized (leaf-few o (s p) old.leaf))

  -- keys are looked for where they were
  stay : (j : ℕ) → leaf_page o u j ≡ leaf_page o s j
  stay j = go tree.shape
    where
      go : Leaf o (s 0) ⊎ Rooted o s → leaf_page o u j ≡ leaf_page o s j
      go (inl a) =
          let none = leaf-no_root o (s 0) a.leaf in
          let zero' : p ≡ 0 = sym home ∙ leaf-alone o s k none in
          leaf-alone o u j (ap (λ x. root_form o (u x)) (sym zero') ∙ leaf-no_root o (u p) new.leaf) ∙ sym (leaf-alone o s j none)
      go (inr r) =
          let l = root-leads o t (count (s 0)) (entries (s 0)) (root-parts o (s 0) r.root) k in
          let e = leaf-root o s k r.root in
          leaf-like o s u j (others 0 (λ z. omega arith))

  pub insert-map : (j : ℕ) → lookup o u j ≡ cond (eqb k j) (Some v) (lookup o s j)
  insert-map j = go (cases_eq (leaf_page o s j) p) (cases_eq k j)
    where
      go : (leaf_page o s j ≡ p) ⊎ (leaf_page o s j ≡ p → ⊥) → (k ≡ j) ⊎ (k ≡ j → ⊥) → lookup o u j ≡ cond (eqb k j) (Some v) (lookup o s j)
      go (inl here) (inl itself) =
          lookup-at o u j p (stay j ∙ here) ∙ ap (find j) new.holds ∙ ap (λ x. find x (put o k v (entries (s p)))) (sym itself) ∙ (puts o t).itself k v (entries (s p)) ∙ sym (cond-true (eqb k j) (Some v) (lookup o s j) (eq-eqb k j itself))
      go (inl here) (inr other) =
          lookup-at o u j p (stay j ∙ here) ∙ ap (find j) new.holds ∙ (puts o t).others k v j (entries (s p)) (λ e. other (sym e)) ∙ sym (lookup-at o s j p here) ∙ sym (cond-false (eqb k j) (Some v) (lookup o s j) (ne_eqb k j other))
      go (inr away) (inl itself) = absurd (away (ap (leaf_page o s) (sym itself) ∙ home))
      go (inr away) (inr other) =
          lookup-at o u j (leaf_page o s j) (stay j) ∙ ap (λ c. find j (entries c)) (others (leaf_page o s j) away) ∙ sym (lookup-at o s j (leaf_page o s j) refl) ∙ sym (cond-false (eqb k j) (Some v) (lookup o s j) (ne_eqb k j other))

  pub insert-tree : Tree o u
  insert-tree = record { sizes = sized'; shape = go tree.shape }
    where
      sized' : (q : ℕ) → q < 32 → length (u q) ≡ 224
      sized' q l = elim (cases_eq q p) [ inl e ↦ ap (λ x. length (u x)) e ∙ new.sized | inr ne ↦ ap length (others q ne) ∙ tree.sizes q l ]

      go : Leaf o (s 0) ⊎ Rooted o s → Leaf o (u 0) ⊎ Rooted o u
      go (inl a) =
          let zero' : p ≡ 0 = sym home ∙ leaf-alone o s k (leaf-no_root o (s 0) a.leaf) in
          inl (subst (λ x. Leaf o (u x)) zero' (leaf-any o (put o k v (entries (s p))) (u p) new))
      go (inr r) =
          let l = root-leads o t (count (s 0)) (entries (s 0)) (root-parts o (s 0) r.root) k in
          let e = leaf-root o s k r.root in
          let at0 : u 0 ≡ s 0 = others 0 (λ z. omega arith) in
          let n : count (u 0) ≡ count (s 0) = ap count at0 in
          inr (record {
            root = ap (root_form o) at0 ∙ r.root;
            root-words = subst (λ c. Words (entries c)) (sym at0) r.root-words;
            leaves = λ q a b. leaves' q (r.leaves q a (omega arith)) (cases_eq q p);
            lead = λ q j w a b h. stay j ∙ lead' q j w h (λ x. r.lead q j x a (omega arith)) (cases_eq q p) (cases_eq k j);
          })
        where
          leaves' : (q : ℕ) → Leaf o (s q) → (q ≡ p) ⊎ (q ≡ p → ⊥) → Leaf o (u q)
          leaves' q l (inl e) = subst (λ x. Leaf o (u x)) (sym e) (leaf-any o (put o k v (entries (s p))) (u p) new)
          leaves' q l (inr ne) = subst (Leaf o) (sym (others q ne)) l

          lead' : (q j w : ℕ) → find j (entries (u q)) ≡ Some w → ((x : ℕ) → find j (entries (s q)) ≡ Some x → leaf_page o s j ≡ q) → (q ≡ p) ⊎ (q ≡ p → ⊥) → (k ≡ j) ⊎ (k ≡ j → ⊥) → leaf_page o s j ≡ q
          lead' q j w h f (inl e) (inl itself) = ap (leaf_page o s) (sym itself) ∙ home ∙ sym e
          lead' q j w h f (inl e) (inr other) =
              f w (ap (λ x. find j (entries (s x))) e ∙ sym ((puts o t).others k v j (entries (s p)) (λ z. other (sym z))) ∙ ap (find j) (sym new.holds) ∙ ap (λ x. find j (entries (u x))) (sym e) ∙ h)
          lead' q j w h f (inr ne) itself = f w (ap (λ c. find j (entries c)) (sym (others q ne)) ∙ h)
