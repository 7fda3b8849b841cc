-- The operations that calls leave: cut anywhere, and what they make of blank pages.
use Rattle.std.proofs.Common.{◌≡◌, ℕ, zero, suc, ◌+◌, ◌-◌, ◌^◌, ◌<◌, ◌≤◌, true, ◌⊎◌, List, [], ◌∷◌, ◌++◌, map, length, take, None, Option, sym, refl, ap, ◌∙◌, subst, inl, inr, arith}
use Rattle.std.proofs.lemmas.List.{length-append, length-take, take_all, take-take, take-append-le}
use Rattle.std.proofs.lemmas.Bool.{cases_lt, both_ways}
use Rattle.tree.specs.declared.step.Step.{Step}
use Rattle.tree.specs.Orders.{KeyOrdering, TotalOrder}
use Rattle.tree.specs.Nodes.{find, absent, entries, count, leaf_form, root_form, middle_key}
use Rattle.tree.specs.Laws.{Words}
use Rattle.tree.specs.Steps.{blank}
use Rattle.treemap.specs.Lookups.{Pages, leaf_page, lookup}
use Rattle.treemap.specs.Plans.{stepped, taken, plan, put_fault}
use Rattle.treemap.specs.Operations.{Operation, step, file, SparesTree, did, after_from, after, Left, nothing, file_call, put_call, value_by, value_after, puts_of}
use Rattle.treemap.specs.Laws.{CutAnywhere, MapOfPuts, PutsRun, MiddleNew, RefusedForRoom}
use Rattle.treemap.proofs.FormLaws.{full_parts, leaf-no_root, root-parts, root-leads}
use Rattle.treemap.proofs.SteppedLaws.{blank-sized}
use Rattle.treemap.proofs.TreeInvariantLaws.{Leaf, leaf-alone, leaf-root, lookup-at, top, top-few, Rooted, Tree, like-tree, like-map}
use Rattle.treemap.proofs.SplitLaws.{middle-away}
use Rattle.treemap.proofs.PlanLaws.{Runs, runs-accepted, plan-runs, tree-fine, tree-room}

-- ---- cut anywhere

take_none : (n : ℕ) → take {A = Operation} n [] ≡ []
take_none zero = refl
take_none (suc n) = refl

take_past : (n : ℕ) (xs ys : List Operation) → length xs ≤ n → take n (xs ++ ys) ≡ xs ++ take (n - length xs) ys
take_past n [] ys l = let e : n - 0 ≡ n = omega arith in ap (λ m. take m ys) (sym e)
take_past zero (x ∷ xs) ys l = absurd (omega arith)
take_past (suc n) (x ∷ xs) ys l = let e : n - length xs ≡ suc n - suc (length xs) = omega arith in ap (λ zs. x ∷ zs) (take_past n xs ys (omega arith) ∙ ap (λ m. xs ++ take m ys) e)

pub cut-anywhere : (o : KeyOrdering) (n : ℕ) (ops : List Operation) → Left o ops → Left o (take n ops)
cut-anywhere o n _ nothing = subst (Left o) (sym (take_none n)) nothing
cut-anywhere o n _ (file_call ops f left spares) = go (cut-anywhere o n ops left) (cases_lt n (length ops + 1))
  where
    go : Left o (take n ops) → (n < length ops + 1) ⊎ (length ops + 1 ≤ n) → Left o (take n (ops ++ (file f ∷ [])))
    go ih (inl l) = subst (Left o) (sym (take-append-le n ops (file f ∷ []) (omega arith))) ih
    go ih (inr g) = subst (Left o) (sym (take_all n (ops ++ (file f ∷ [])) (let e = length-append ops (file f ∷ []) in omega arith))) (file_call ops f left spares)
cut-anywhere o n _ (put_call ops k v m left lk lv fine) = go (cut-anywhere o n ops left) (cases_lt n (length ops + 1)) (cases_lt (n - length ops) m)
  where
    sts : List Operation
    sts = map step (plan o (after o ops) k v)

    go : Left o (take n ops) → (n < length ops + 1) ⊎ (length ops + 1 ≤ n) → (n - length ops < m) ⊎ (m ≤ n - length ops) → Left o (take n (ops ++ take m sts))
    go ih (inl l) _ = subst (Left o) (sym (take-append-le n ops (take m sts) (omega arith))) ih
    go ih (inr g) (inl l) = subst (Left o) (sym (take_past n ops (take m sts) (omega arith) ∙ ap (λ xs. ops ++ xs) (take-take (n - length ops) m sts (omega arith)))) (put_call ops k v (n - length ops) left lk lv fine)
    go ih (inr g) (inr h) =
        let few : length (take m sts) ≤ n - length ops = let e = length-take m sts in omega arith in
        subst (Left o) (sym (take_past n ops (take m sts) (omega arith) ∙ ap (λ xs. ops ++ xs) (take_all (n - length ops) (take m sts) few))) (put_call ops k v m left lk lv fine)

pub left_cut : (o : KeyOrdering) → CutAnywhere o
left_cut o ops n left = cut-anywhere o n ops left

-- a put that ran whole
pub put_whole : (o : KeyOrdering) (ops : List Operation) (k v : ℕ) → Left o ops → k < 2 ^ 32 → v < 2 ^ 32 → put_fault o (after o ops) k ≡ None → Left o (ops ++ map step (plan o (after o ops) k v))
put_whole o ops k v left lk lv fine =
    let sts = map step (plan o (after o ops) k v) in
    subst (λ xs. Left o (ops ++ xs)) (take_all (length sts) sts (omega arith)) (put_call ops k v (length sts) left lk lv fine)

-- ---- operations one after another

from-append : (o : KeyOrdering) (xs ys : List Operation) (s : Pages) → after_from o (xs ++ ys) s ≡ after_from o ys (after_from o xs s)
from-append o [] ys s = refl
from-append o (x ∷ xs) ys s = from-append o xs ys (did o x s)

after-append : (o : KeyOrdering) (xs ys : List Operation) → after o (xs ++ ys) ≡ after_from o ys (after o xs)
unfolding after
after-append o xs ys = from-append o xs ys (λ _. blank)

value-append : (k : ℕ) (xs ys : List Operation) (d : Option ℕ) → value_after k (xs ++ ys) d ≡ value_after k ys (value_after k xs d)
value-append k [] ys d = refl
value-append k (x ∷ xs) ys d = value-append k xs ys (value_by k x d)

puts-append : (k : ℕ) (xs ys : List Operation) → puts_of (xs ++ ys) k ≡ value_after k ys (puts_of xs k)
unfolding puts_of
puts-append k xs ys = value-append k xs ys None

-- pages are a tree whose map is f
abbrev pub Maps : KeyOrdering → Pages → (ℕ → Option ℕ) → Type 0
Maps o s f = Tree o s × ((k : ℕ) → lookup o s k ≡ f k)

-- the first so many steps of a run
runs-front : (o : KeyOrdering) (n : ℕ) (sts : List Step) (s : Pages) → Tree o s → Runs o sts s → Maps o (after_from o (take n (map step sts)) s) (λ k. value_after k (take n (map step sts)) (lookup o s k))
runs-front o zero sts s tree runs = (tree, (λ k. refl))
runs-front o (suc n) [] s tree runs = (tree, (λ k. refl))
runs-front o (suc n) (st ∷ sts) s tree runs =
    let u = runs.0 in
    let e : taken (stepped o st s) s ≡ u = ap (λ x. taken x s) runs.1 in
    let ih = runs-front o n sts u runs.2 runs.4 in
    let rest = take n (map step sts) in
    subst (λ x. Maps o (after_from o rest x) (λ k. value_after k rest (value_by k (step st) (lookup o s k)))) (sym e) (ih.0, (λ k. ih.1 k ∙ ap (value_after k rest) (runs.3 k)))

-- ---- blank pages

blank-leaf : (o : KeyOrdering) → leaf_form o blank ≡ true
unfolding blank entries
blank-leaf o = refl

blank-entries : entries blank ≡ []
unfolding blank entries
blank-entries = refl

blank-maps : (o : KeyOrdering) → Maps o (λ _. blank) (λ k. None)
blank-maps o = (
  record { sizes = λ p l. blank-sized; shape = inl (record { leaf = blank-leaf o; holds = refl; words = subst Words (sym blank-entries) tt; sized = blank-sized }) },
  (λ k. lookup-at o (λ _. blank) k 0 (leaf-alone o (λ _. blank) k (leaf-no_root o blank (blank-leaf o))) ∙ ap (find k) blank-entries),
)

-- ---- what calls leave

module _ (o : KeyOrdering) (t : TotalOrder o) (small : o.least < 2 ^ 32) where
  file-maps : (f : Pages → Pages) (s : Pages) → SparesTree f → Tree o s → Maps o (f s) (lookup o s)
  file-maps f s spares tree = (like-tree o t s (f s) tree sized same, like-map o t s (f s) tree sized same)
    where
      sized : (p : ℕ) → p < 32 → length (f s p) ≡ 224
      sized p l = ap length (spares s p l) ∙ tree.sizes p l

      same : (p : ℕ) → p ≤ top o s → f s p ≡ s p
      same p l = let few = top-few o s in spares s p (omega arith)

  pub left-maps : (ops : List Operation) → Left o ops → Maps o (after o ops) (puts_of ops)
  unfolding after puts_of
  left-maps _ nothing = blank-maps o
  left-maps _ (file_call ops f left spares) = go (left-maps ops left)
    where
      go : Maps o (after o ops) (puts_of ops) → Maps o (after o (ops ++ (file f ∷ []))) (puts_of (ops ++ (file f ∷ [])))
      go ih =
          let m = file-maps f (after o ops) spares ih.0 in
          subst (λ s. Maps o s (puts_of (ops ++ (file f ∷ [])))) (sym (after-append o ops (file f ∷ []))) (m.0, (λ k. m.1 k ∙ ih.1 k ∙ sym (puts-append k ops (file f ∷ []))))
  left-maps _ (put_call ops k v n left lk lv fine) = go (left-maps ops left)
    where
      front : List Operation
      front = take n (map step (plan o (after o ops) k v))

      go : Maps o (after o ops) (puts_of ops) → Maps o (after o (ops ++ front)) (puts_of (ops ++ front))
      go ih =
          let m = runs-front o n (plan o (after o ops) k v) (after o ops) ih.0 (plan-runs o t small (after o ops) ih.0 k v lk lv fine) in
          subst (λ s. Maps o s (puts_of (ops ++ front))) (sym (after-append o ops front)) (m.0, (λ j. m.1 j ∙ ap (value_after j front) (ih.1 j) ∙ sym (puts-append j ops front)))

  pub map-of_puts : MapOfPuts o
  map-of_puts ops left k = let m = left-maps ops left in (tree-fine o t (after o ops) m.0 k, m.1 k)

  pub puts-run : PutsRun o
  puts-run ops left k v lk lv fine = runs-accepted o (plan o (after o ops) k v) (after o ops) (plan-runs o t small (after o ops) (left-maps ops left).0 k v lk lv fine)

  pub middle-new : MiddleNew o
  middle-new ops left k root full = go (left-maps ops left).0.shape
    where
      s : Pages
      s = after o ops

      go : Leaf o (s 0) ⊎ Rooted o s → absent (middle_key (s (leaf_page o s k))) (entries (s 0)) ≡ true
      go (inl a) = absurd (both_ways (root_form o (s 0)) (leaf-no_root o (s 0) a.leaf) root)
      go (inr r) =
          let l = root-leads o t (count (s 0)) (entries (s 0)) (root-parts o (s 0) root) k in
          let e = leaf-root o s k root in
          middle-away o t s r (leaf_page o s k) (omega arith) (omega arith) (full_parts o (s (leaf_page o s k)) full).0

  pub refused-for_room : RefusedForRoom o
  refused-for_room ops left k p fault = tree-room o t (after o ops) (left-maps ops left).0 k p fault
