-- The steps of a put on a tree.
use Rattle.std.proofs.Common.{◌≡◌, ℕ, ◌+◌, ◌^◌, ◌<◌, ◌≤◌, Bool, true, false, cond, ◌&&◌, ◌||◌, eqb, ◌⊎◌, List, [], ◌∷◌, ◌++◌, length, take, drop, Some, None, Ok, Option, sym, refl, ap, ◌∙◌, subst, inl, inr, arith}
use Rattle.std.proofs.lemmas.List.{length-take}
use Rattle.std.proofs.lemmas.Bool.{cases_Bool, cases_eq, cases_lt, cond-true, cond-false, both_ways, and_parts, and_from, and_left, and_right, eqb-false, or_left, or_right}
use Rattle.tree.specs.declared.step.Step.{Step}
use Rattle.tree.specs.declared.step.Step.TheVariants.{Insert, Lower, Upper, Cut, Grow}
use Rattle.tree.specs.Orders.{KeyOrdering, TotalOrder}
use Rattle.tree.specs.Nodes.{Entry, absent, put, count, entries, renew, leaf_form, full_leaf, root_form, middle_key}
use Rattle.tree.specs.Steps.{blank}
use Rattle.tree.specs.NodeLaws.{put-length}
use Rattle.tree.specs.TreeLaws.{renew-length}
use Rattle.treemap.specs.Lookups.{Pages, leaf_page, lookup, get_fault}
use Rattle.treemap.specs.Plans.{stepped, taken, run_all, splits, splitting, plan, PutFault, bad_page, no_room, split_fault, fault_by, put_fault}
use Rattle.treemap.specs.Operations.{step, value_by}
use Rattle.treemap.specs.Laws.{Accepted}
use Rattle.treemap.proofs.FormLaws.{full_parts, leaf-no_root, root-parts, root-leads, root-put, LeafOf}
use Rattle.treemap.proofs.SteppedLaws.{Writes, insert-writes, lower-writes, upper-writes, grow-writes, cut-writes, blank-sized, blank-count}
use Rattle.treemap.proofs.TreeInvariantLaws.{Leaf, leaf-at, leaf-alone, leaf-root, leaf-like, leaf-top, top, top-few, Rooted, Tree, tree-leaf, like-rooted, like-tree, like-map, unsplit_room, insert-map, insert-tree}
use Rattle.treemap.proofs.SplitLaws.{lower-leaf, upper-leaf, grow-rooted, grow-map, grow-room, middle-away, cut-rooted, cut-map, cut-room}

-- steps that are accepted one after another, each of which leaves a tree; only an Insert changes the map
abbrev pub Runs : KeyOrdering → List Step → Pages → Type 0
Runs o [] s = Unit {0}
Runs o (st ∷ sts) s = (u : Pages) × (stepped o st s ≡ Ok u) × Tree o u × ((k : ℕ) → lookup o u k ≡ value_by k (step st) (lookup o s k)) × Runs o sts u

pub runs-accepted : (o : KeyOrdering) (sts : List Step) (s : Pages) → Runs o sts s → Accepted o sts s
runs-accepted o [] s r = tt
runs-accepted o (st ∷ sts) s r = (r.0, r.1, runs-accepted o sts r.0 r.4)

run_more : (o : KeyOrdering) (st : Step) (sts : List Step) (s u : Pages) → stepped o st s ≡ Ok u → run_all o (st ∷ sts) s ≡ run_all o sts u
run_more o st sts s u e = ap (λ x. run_all o sts (taken x s)) e

pub ran-two : (o : KeyOrdering) (a b : Step) (s s1 u : Pages) → stepped o a s ≡ Ok s1 → stepped o b s1 ≡ Ok u → run_all o (a ∷ b ∷ []) s ≡ u
ran-two o a b s s1 u e1 e2 = run_more o a (b ∷ []) s s1 e1 ∙ run_more o b [] s1 u e2

ran-three : (o : KeyOrdering) (a b c : Step) (s s1 s2 u : Pages) → stepped o a s ≡ Ok s1 → stepped o b s1 ≡ Ok s2 → stepped o c s2 ≡ Ok u → run_all o (a ∷ b ∷ c ∷ []) s ≡ u
ran-three o a b c s s1 s2 u e1 e2 e3 = run_more o a (b ∷ c ∷ []) s s1 e1 ∙ ran-two o b c s1 s2 u e2 e3

-- ---- what is not refused

fault-parts : (g : Option ℕ) (next : Option PutFault) → fault_by g next ≡ None → (g ≡ None) × (next ≡ None)
fault-parts None next e = (refl, e)
fault-parts (Some p) next e = absurd (let z : ◌≡◌ {A = ℕ} 0 1 = cc in omega arith)

split-fine : (x y : Bool) (p : ℕ) → cond {A = Option PutFault} x (cond y (Some no_room) None) (Some (bad_page p)) ≡ None → (x ≡ true) × (y ≡ false)
split-fine true false p e = (refl, refl)
split-fine true true p e = absurd (let z : ◌≡◌ {A = ℕ} 0 1 = cc in omega arith)
split-fine false y p e = absurd (let z : ◌≡◌ {A = ℕ} 0 1 = cc in omega arith)

no_fault : (p : ℕ) → ◌≡◌ {A = Option PutFault} None (Some (bad_page p)) → ⊥
no_fault p e = let z : ◌≡◌ {A = ℕ} 0 1 = cc in omega arith

for_room : (x y : Bool) (q p : ℕ) → x ≡ true → cond {A = Option PutFault} x (cond y (Some no_room) None) (Some (bad_page q)) ≡ Some (bad_page p) → ⊥
for_room true true q p h e = let z : ◌≡◌ {A = ℕ} 0 1 = cc in omega arith
for_room true false q p h e = no_fault p e
for_room false y q p h e = both_ways false refl h

-- where a put is not refused, neither is a lookup
pub put-fine : (o : KeyOrdering) (s : Pages) (k : ℕ) → put_fault o s k ≡ None → get_fault o s k ≡ None
unfolding put_fault
put-fine o s k fine = (fault-parts (get_fault o s k) (cond (splits o s k && root_form o (s 0)) (split_fault (leaf_page o s k) (s 0) (s (leaf_page o s k))) None) fine).0

-- where a put is not refused and its leaf under the root is split, the root is not full
pub put-room : (o : KeyOrdering) (s : Pages) (k : ℕ) → put_fault o s k ≡ None → splits o s k ≡ true → root_form o (s 0) ≡ true → (absent (middle_key (s (leaf_page o s k))) (entries (s 0)) ≡ true) × (count (s 0) ≡ 26 → ⊥)
unfolding put_fault
put-room o s k fine sp root =
    let f = fault-parts (get_fault o s k) (cond (splits o s k && root_form o (s 0)) (split_fault (leaf_page o s k) (s 0) (s (leaf_page o s k))) None) fine in
    let e = sym (cond-true (splits o s k && root_form o (s 0)) (split_fault (leaf_page o s k) (s 0) (s (leaf_page o s k))) None (and_from (splits o s k) (root_form o (s 0)) sp root)) ∙ f.1 in
    let p = split-fine (absent (middle_key (s (leaf_page o s k))) (entries (s 0))) (eqb (count (s 0)) 26) (leaf_page o s k) e in
    (p.0, eqb-false (count (s 0)) 26 p.1)

pub below-full : (n : ℕ) → n ≤ 26 → (n ≡ 26 → ⊥) → n + 1 ≤ 26
below-full n l ne = elim (cases_lt n 26) [ inl a ↦ omega arith | inr b ↦ absurd (ne (omega arith)) ]

pub splits-full : (o : KeyOrdering) (s : Pages) (k : ℕ) → splits o s k ≡ true → full_leaf o (s (leaf_page o s k)) ≡ true
unfolding splits
splits-full o s k h = (and_parts (full_leaf o (s (leaf_page o s k))) (absent k (entries (s (leaf_page o s k)))) h).0

-- ---- the ways of a plan

pub plan-plain : (o : KeyOrdering) (s : Pages) (k v : ℕ) → splits o s k ≡ false → plan o s k v ≡ Insert (leaf_page o s k) k v ∷ []
unfolding plan
plan-plain o s k v h = cond-false (splits o s k) _ _ h

pub plan-split : (o : KeyOrdering) (s : Pages) (k v : ℕ) → splits o s k ≡ true → plan o s k v ≡ splitting o s k ++ (Insert (leaf_page o (run_all o (splitting o s k) s) k) k v ∷ [])
unfolding plan
plan-split o s k v h = cond-true (splits o s k) _ _ h

pub split-alone : (o : KeyOrdering) (s : Pages) (k : ℕ) → root_form o (s 0) ≡ false → splitting o s k ≡ Lower 0 1 ∷ Upper 0 2 ∷ Grow ∷ []
unfolding splitting
split-alone o s k h = cond-false (root_form o (s 0)) _ _ h

pub split-under : (o : KeyOrdering) (s : Pages) (k : ℕ) → root_form o (s 0) ≡ true → splitting o s k ≡ Upper (leaf_page o s k) (count (s 0) + 1) ∷ Cut (leaf_page o s k) (count (s 0) + 1) ∷ []
unfolding splitting
split-under o s k h = cond-true (root_form o (s 0)) _ _ h

-- ---- the steps on a tree

module _ (o : KeyOrdering) (t : TotalOrder o) where
  pub insert-runs : (s : Pages) → Tree o s → (k v : ℕ) → k < 2 ^ 32 → v < 2 ^ 32 → length (put o k v (entries (s (leaf_page o s k)))) ≤ 26 → Runs o (Insert (leaf_page o s k) k v ∷ []) s
  insert-runs s tree k v lk lv room =
      let l = tree-leaf o t s tree k in
      let a = leaf-top o t s k in
      let b = top-few o s in
      let w = insert-writes o s (leaf_page o s k) k v (omega arith) l.sized l.leaf room in (
        w.next,
        w.accepted,
        insert-tree o t s w.next tree (leaf_page o s k) k v lk lv refl room w.there w.others,
        insert-map o t s w.next tree (leaf_page o s k) k v lk lv refl room w.there w.others,
        tt,
      )

  -- a leaf of 13 entries has room
  pub half_room : (k v : ℕ) (es : List Entry) → length es ≡ 13 → length (put o k v es) ≤ 26
  half_room k v es n = let e = put-length o t k v es in omega arith

  writes-sized : (st : Step) (s : Pages) (q : ℕ) (c : List ℕ) → Tree o s → (w : Writes o st s q c) → length c ≡ 224 → (p : ℕ) → p < 32 → length (w.next p) ≡ 224
  writes-sized st s q c tree w n p l = elim (cases_eq p q) [ inl e ↦ ap (λ x. length (w.next x)) e ∙ ap length w.there ∙ n | inr ne ↦ ap length (w.others p ne) ∙ tree.sizes p l ]

  -- a step that writes a page outside the tree
  beside : (st : Step) (s : Pages) (q : ℕ) (c : List ℕ) → Tree o s → (w : Writes o st s q c) → length c ≡ 224 → top o s < q → Tree o w.next × ((k : ℕ) → lookup o w.next k ≡ lookup o s k)
  beside st s q c tree w n l = (like-tree o t s w.next tree sized same, like-map o t s w.next tree sized same)
    where
      sized : (p : ℕ) → p < 32 → length (w.next p) ≡ 224
      sized = writes-sized st s q c tree w n

      same : (p : ℕ) → p ≤ top o s → w.next p ≡ s p
      same p le = w.others p (λ e. omega arith)

  -- page 0 as a leaf is split
  grow-runs : (small : o.least < 2 ^ 32) (s : Pages) → Tree o s → Leaf o (s 0) → full_leaf o (s 0) ≡ true → (rest : List Step)
      → ((u : Pages) → run_all o (Lower 0 1 ∷ Upper 0 2 ∷ Grow ∷ []) s ≡ u → Tree o u → ((k : ℕ) → length (entries (u (leaf_page o u k))) ≡ 13) → Runs o rest u) → Runs o (Lower 0 1 ∷ Upper 0 2 ∷ Grow ∷ rest) s
  grow-runs small s tree a full rest go =
      let n = (full_parts o (s 0) full).0 in
      let none = leaf-no_root o (s 0) a.leaf in
      let zt : top o s ≡ 0 = cond-false (root_form o (s 0)) (count (s 0)) 0 none in
      let bc = blank-count in
      -- the lower half on page 1
      let w1 = lower-writes o s 0 1 (omega arith) (omega arith) full in
      let s1 = w1.next in
      let low1 = lower-leaf o t (s 0) a n blank blank-sized (omega arith) in
      let b1 = beside (Lower 0 1) s 1 (renew 1 (take 13 (entries (s 0))) blank) tree w1 low1.sized (omega arith) in
      let z1 : s1 0 ≡ s 0 = w1.others 0 (λ e. omega arith) in
      -- the upper half on page 2
      let full1 : full_leaf o (s1 0) ≡ true = ap (full_leaf o) z1 ∙ full in
      let w2 = upper-writes o s1 0 2 (omega arith) (omega arith) full1 in
      let s2 = w2.next in
      let a1 : Leaf o (s1 0) = subst (Leaf o) (sym z1) a in
      let n1 : count (s1 0) ≡ 26 = ap count z1 ∙ n in
      let high2 = upper-leaf o t (s1 0) a1 n1 blank blank-sized (omega arith) in
      let zt1 : top o s1 ≡ 0 = cond-false (root_form o (s1 0)) (count (s1 0)) 0 (ap (root_form o) z1 ∙ none) in
      let b2 = beside (Upper 0 2) s1 2 (renew 1 (drop 13 (entries (s1 0))) blank) b1.0 w2 high2.sized (omega arith) in
      let z2 : s2 0 ≡ s1 0 = w2.others 0 (λ e. omega arith) in
      -- the root over them
      let full2 : full_leaf o (s2 0) ≡ true = ap (full_leaf o) z2 ∙ full1 in
      let a2 : Leaf o (s2 0) = subst (Leaf o) (sym z2) a1 in
      let n2 : count (s2 0) ≡ 26 = ap count z2 ∙ n1 in
      let z20 : s2 0 ≡ s 0 = z2 ∙ z1 in
      let w3 = grow-writes o s2 a2.sized full2 in
      let u = w3.next in
      let low2 : LeafOf o (take 13 (entries (s2 0))) (s2 1) = subst (λ c. LeafOf o (take 13 (entries c)) (s2 1)) (sym z20) (leaf-at o (take 13 (entries (s 0))) (renew 1 (take 13 (entries (s 0))) blank) (s2 1) (w2.others 1 (λ e. omega arith) ∙ w1.there) low1) in
      let hi2 : LeafOf o (drop 13 (entries (s2 0))) (s2 2) = subst (λ c. LeafOf o (drop 13 (entries c)) (s2 2)) (sym z2) (leaf-at o (drop 13 (entries (s1 0))) (renew 1 (drop 13 (entries (s1 0))) blank) (s2 2) w2.there high2) in
      let rooted = grow-rooted o t small s2 u a2 n2 low2 hi2 w3.there w3.others in
      let same = grow-map o t small s2 u a2 n2 low2 hi2 w3.there w3.others in
      let room = grow-room o t small s2 u a2 n2 low2 hi2 w3.there w3.others in
      let sz = renew-length 2 ((o.least, 1) ∷ ((middle_key (s2 0), 2) ∷ [])) (s2 0) a2.sized (omega arith) (omega arith) in
      let tree3 : Tree o u = record { sizes = writes-sized Grow s2 0 (renew 2 ((o.least, 1) ∷ ((middle_key (s2 0), 2) ∷ [])) (s2 0)) b2.0 w3 sz; shape = inr rooted } in
      let ran = ran-three o (Lower 0 1) (Upper 0 2) Grow s s1 s2 u w1.accepted w2.accepted w3.accepted in
      (s1, w1.accepted, b1.0, b1.1, (s2, w2.accepted, b2.0, b2.1, (u, w3.accepted, tree3, same, go u ran tree3 room)))

  -- a leaf under the root is split
  cut-runs : (s : Pages) → Tree o s → Rooted o s → (p q : ℕ) → 1 ≤ p → p ≤ count (s 0) → full_leaf o (s p) ≡ true → q ≡ count (s 0) + 1 → q ≤ 26 → (rest : List Step)
      → ((u : Pages) → run_all o (Upper p q ∷ Cut p q ∷ []) s ≡ u → Tree o u → ((k : ℕ) → leaf_page o s k ≡ p → length (entries (u (leaf_page o u k))) ≡ 13) → Runs o rest u) → Runs o (Upper p q ∷ Cut p q ∷ rest) s
  cut-runs s tree r p q low up full e few rest go =
      let n = (full_parts o (s p) full).0 in
      let l = r.leaves p low up in
      let ct : top o s ≡ count (s 0) = cond-true (root_form o (s 0)) (count (s 0)) 0 r.root in
      let bc = blank-count in
      -- the upper half on page q
      let w1 = upper-writes o s p q (omega arith) (omega arith) full in
      let s1 = w1.next in
      let high1 = upper-leaf o t (s p) l n blank blank-sized (omega arith) in
      let b1 = beside (Upper p q) s q (renew 1 (drop 13 (entries (s p))) blank) tree w1 high1.sized (omega arith) in
      let z0 : s1 0 ≡ s 0 = w1.others 0 (λ z. omega arith) in
      let zp : s1 p ≡ s p = w1.others p (λ z. omega arith) in
      -- the cut
      let r1 = like-rooted o s s1 r (λ x b. w1.others x (λ z. omega arith)) in
      let up1 : p ≤ count (s1 0) = subst (λ c. p ≤ count c) (sym z0) up in
      let e1 : q ≡ count (s1 0) + 1 = e ∙ ap (λ c. count c + 1) (sym z0) in
      let full1 : full_leaf o (s1 p) ≡ true = ap (full_leaf o) zp ∙ full in
      let n1 = (full_parts o (s1 p) full1).0 in
      let away1 = middle-away o t s1 r1 p low up1 n1 in
      let fits = (root-put o t (count (s1 0)) (entries (s1 0)) (root-parts o (s1 0) r1.root) (middle_key (s1 p)) q away1 e1 few).size in
      let w2 = cut-writes o s1 p q low (omega arith) (b1.0.sizes 0 (omega arith)) (b1.0.sizes p (omega arith)) full1 r1.root (sym e1) few away1 (omega arith) in
      let u = w2.next in
      let high2 : LeafOf o (drop 13 (entries (s1 p))) (s1 q) = subst (λ c. LeafOf o (drop 13 (entries c)) (s1 q)) (sym zp) (leaf-at o (drop 13 (entries (s p))) (renew 1 (drop 13 (entries (s p))) blank) (s1 q) w1.there high1) in
      let rooted = cut-rooted o t s1 u r1 p q low up1 n1 e1 few high2 w2.at-root w2.at_leaf w2.others in
      let same = cut-map o t s1 u r1 p q low up1 n1 e1 few high2 w2.at-root w2.at_leaf w2.others in
      let room = cut-room o t s1 u r1 p q low up1 n1 e1 few high2 w2.at-root w2.at_leaf w2.others in
      let tree2 : Tree o u = record { sizes = cut-sized s1 u b1.0 p q w2.at-root w2.at_leaf w2.others (root-parts o (s1 0) r1.root).few (omega arith) (omega arith) (omega arith); shape = inr rooted } in
      let ran = ran-two o (Upper p q) (Cut p q) s s1 u w1.accepted w2.accepted in
      (s1, w1.accepted, b1.0, b1.1, (u, w2.accepted, tree2, same, go u ran tree2 (λ k h. room k (leaf-like o s s1 k z0 ∙ h))))
    where
      cut-sized : (s u : Pages) → Tree o s → (p q : ℕ) → u 0 ≡ renew 2 (put o (middle_key (s p)) q (entries (s 0))) (s 0) → u p ≡ renew 1 (take 13 (entries (s p))) (s p) → ((x : ℕ) → (x ≡ 0 → ⊥) → (x ≡ p → ⊥) → u x ≡ s x)
          → count (s 0) ≤ 26 → count (s p) ≤ 26 → length (put o (middle_key (s p)) q (entries (s 0))) ≤ 26 → p ≤ 26 → (x : ℕ) → x < 32 → length (u x) ≡ 224
      cut-sized s u tree p q at-root at_leaf others c0 cp room lp x lx = at (cases_eq x 0) (cases_eq x p)
        where
          at : (x ≡ 0) ⊎ (x ≡ 0 → ⊥) → (x ≡ p) ⊎ (x ≡ p → ⊥) → length (u x) ≡ 224
          at (inl z) _ = ap (λ y. length (u y)) z ∙ ap length at-root ∙ renew-length 2 (put o (middle_key (s p)) q (entries (s 0))) (s 0) (tree.sizes 0 (omega arith)) c0 room
          at (inr n) (inl z) = ap (λ y. length (u y)) z ∙ ap length at_leaf ∙ renew-length 1 (take 13 (entries (s p))) (s p) (tree.sizes p (omega arith)) cp (simp length-take (omega arith))
          at (inr n) (inr m) = ap length (others x n m) ∙ tree.sizes x lx

  -- a put that is not refused runs whole
  pub plan-runs : o.least < 2 ^ 32 → (s : Pages) → Tree o s → (k v : ℕ) → k < 2 ^ 32 → v < 2 ^ 32 → put_fault o s k ≡ None → Runs o (plan o s k v) s
  plan-runs small s tree k v lk lv fine = go (cases_Bool (splits o s k)) tree.shape
    where
      last : (sp : List Step) → List Step
      last sp = Insert (leaf_page o (run_all o sp s) k) k v ∷ []

      -- the key goes in at the end
      finish : (sp : List Step) (u : Pages) → run_all o sp s ≡ u → Tree o u → length (entries (u (leaf_page o u k))) ≡ 13 → Runs o (last sp) u
      finish sp u e tree' n = subst (λ x. Runs o (Insert (leaf_page o x k) k v ∷ []) u) (sym e) (insert-runs u tree' k v lk lv (half_room k v (entries (u (leaf_page o u k))) n))

      go : (splits o s k ≡ true) ⊎ (splits o s k ≡ false) → Leaf o (s 0) ⊎ Rooted o s → Runs o (plan o s k v) s
      go (inr n) _ = subst (λ sts. Runs o sts s) (sym (plan-plain o s k v n)) (insert-runs s tree k v lk lv (unsplit_room o t s k v (tree-leaf o t s tree k).leaf n))
      go (inl y) (inl a) =
          let none = leaf-no_root o (s 0) a.leaf in
          let full : full_leaf o (s 0) ≡ true = ap (λ x. full_leaf o (s x)) (sym (leaf-alone o s k none)) ∙ splits-full o s k y in
          let sp = Lower 0 1 ∷ Upper 0 2 ∷ Grow ∷ [] in
          let e : plan o s k v ≡ sp ++ last sp = plan-split o s k v y ∙ ap (λ x. x ++ last x) (split-alone o s k none) in
          subst (λ sts. Runs o sts s) (sym e) (grow-runs small s tree a full (last sp) (λ u ran tree' room. finish sp u ran tree' (room k)))
      go (inl y) (inr r) =
          let p = leaf_page o s k in
          let q = count (s 0) + 1 in
          let pr = put-room o s k fine y r.root in
          let root = root-parts o (s 0) r.root in
          let few = root.few in
          let l = root-leads o t (count (s 0)) (entries (s 0)) root k in
          let at = leaf-root o s k r.root in
          let q26 : q ≤ 26 = below-full (count (s 0)) few pr.1 in
          let sp = Upper p q ∷ Cut p q ∷ [] in
          let e : plan o s k v ≡ sp ++ last sp = plan-split o s k v y ∙ ap (λ x. x ++ last x) (split-under o s k r.root) in
          subst (λ sts. Runs o sts s) (sym e) (cut-runs s tree r p q (omega arith) (omega arith) (splits-full o s k y) refl q26 (last sp) (λ u ran tree' room. finish sp u ran tree' (room k refl)))

  -- no lookup fails on a tree
  pub tree-fine : (s : Pages) → Tree o s → (k : ℕ) → get_fault o s k ≡ None
  unfolding get_fault
  tree-fine s tree k =
      cond-true (leaf_form o (s 0) || root_form o (s 0)) _ _ (go tree.shape) ∙ cond-true (leaf_form o (s (leaf_page o s k))) None (Some (leaf_page o s k)) (tree-leaf o t s tree k).leaf
    where
      go : Leaf o (s 0) ⊎ Rooted o s → (leaf_form o (s 0) || root_form o (s 0)) ≡ true
      go (inl a) = or_left (leaf_form o (s 0)) (root_form o (s 0)) a.leaf
      go (inr r) = or_right (leaf_form o (s 0)) (root_form o (s 0)) r.root

  -- on a tree a put is refused only for want of room
  pub tree-room : (s : Pages) → Tree o s → (k p : ℕ) → put_fault o s k ≡ Some (bad_page p) → ⊥
  unfolding put_fault
  tree-room s tree k p fault = go (cases_Bool (splits o s k)) tree.shape (sym (ap (λ g. fault_by g next) (tree-fine s tree k)) ∙ fault)
    where
      q : ℕ
      q = leaf_page o s k

      next : Option PutFault
      next = cond (splits o s k && root_form o (s 0)) (split_fault q (s 0) (s q)) None

      go : (splits o s k ≡ true) ⊎ (splits o s k ≡ false) → Leaf o (s 0) ⊎ Rooted o s → next ≡ Some (bad_page p) → ⊥
      go (inr n) _ e = no_fault p (sym (cond-false (splits o s k && root_form o (s 0)) (split_fault q (s 0) (s q)) None (and_left (splits o s k) (root_form o (s 0)) n)) ∙ e)
      go (inl y) (inl a) e = no_fault p (sym (cond-false (splits o s k && root_form o (s 0)) (split_fault q (s 0) (s q)) None (and_right (splits o s k) (root_form o (s 0)) (leaf-no_root o (s 0) a.leaf))) ∙ e)
      go (inl y) (inr r) e =
          let l = root-leads o t (count (s 0)) (entries (s 0)) (root-parts o (s 0) r.root) k in
          let at = leaf-root o s k r.root in
          let away = middle-away o t s r q (omega arith) (omega arith) (full_parts o (s q) (splits-full o s k y)).0 in
          for_room (absent (middle_key (s q)) (entries (s 0))) (eqb (count (s 0)) 26) q p away (sym (cond-true (splits o s k && root_form o (s 0)) (split_fault q (s 0) (s q)) None (and_from (splits o s k) (root_form o (s 0)) y r.root)) ∙ e)
