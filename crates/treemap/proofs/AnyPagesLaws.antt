-- On any pages of 224 bytes a put that is not refused runs whole.
use Rattle.std.proofs.Common.{◌≡◌, ℕ, zero, suc, ◌+◌, ◌^◌, ◌<◌, ◌≤◌, Bool, true, false, cond, ◌||◌, ◌⊎◌, List, [], ◌∷◌, ◌++◌, length, take, drop, Some, None, Ok, Option, sym, refl, ap, ◌∙◌, subst, inl, inr, arith}
use Rattle.std.proofs.ByRecursion.{All-drop}
use Rattle.std.proofs.lemmas.Bool.{cases_Bool, both_ways, or_cases}
use Rattle.sets.specs.Words.{number}
use Rattle.kinds.specs.Kinds.{Bytes}
use Rattle.tree.specs.declared.step.Step.{Step}
use Rattle.tree.specs.declared.step.Step.TheVariants.{Insert, Upper, Cut}
use Rattle.tree.specs.Orders.{KeyOrdering, TotalOrder}
use Rattle.tree.specs.Nodes.{Entry, absent, count, entries, entries_of, renew, leaf_form, full_leaf, root_form, middle_key}
use Rattle.tree.specs.Laws.{Words}
use Rattle.tree.specs.Steps.{blank}
use Rattle.treemap.specs.Lookups.{Pages, leaf_page, get_fault}
use Rattle.treemap.specs.Plans.{stepped, run_all, splits, plan, put_fault}
use Rattle.treemap.specs.Laws.{Accepted, Paged, PutsAccepted}
use Rattle.treemap.proofs.FormLaws.{full_parts, root-parts, root-leads, root-put, LeafOf}
use Rattle.treemap.proofs.SteppedLaws.{insert-writes, upper-writes, cut-writes, blank-sized, blank-count}
use Rattle.treemap.proofs.TreeInvariantLaws.{Leaf, leaf-at, leaf-root, leaf-like, leaf-top, top-few, Tree, unsplit_room}
use Rattle.treemap.proofs.SplitLaws.{upper-leaf, cut-half}
use Rattle.treemap.proofs.PlanLaws.{runs-accepted, ran-two, put-fine, put-room, below-full, splits-full, plan-plain, plan-split, split-under, half_room, plan-runs}

-- ---- entries of bytes are words

word_small : (bs : List ℕ) → Bytes bs → number (take 4 bs) < 2 ^ 32
word_small [] b = omega arith
word_small (w ∷ []) b = let b0 = b.0 in omega arith
word_small (w ∷ (x ∷ [])) b = let b0 = b.0 in let b1 = b.1.0 in omega arith
word_small (w ∷ (x ∷ (y ∷ []))) b = let b0 = b.0 in let b1 = b.1.0 in let b2 = b.1.1.0 in omega arith
word_small (w ∷ (x ∷ (y ∷ (z ∷ rest)))) b = let b0 = b.0 in let b1 = b.1.0 in let b2 = b.1.1.0 in let b3 = b.1.1.1.0 in omega arith

words_of : (n : ℕ) (bs : List ℕ) → Bytes bs → Words (entries_of n bs)
words_of zero bs b = tt
words_of (suc n) bs b = ((word_small bs b, word_small (drop 4 bs) (All-drop (λ x. x < 256) 4 bs b)), words_of n (drop 8 bs) (All-drop (λ x. x < 256) 8 bs b))

pub entries-words : (c : List ℕ) → Bytes c → Words (entries c)
unfolding entries
entries-words c b = words_of (count c) (drop 4 c) (All-drop (λ x. x < 256) 4 c b)

-- ---- what is not refused

get_fine : (x y : Bool) (p : ℕ) → cond {A = Option ℕ} x (cond y None (Some p)) (Some 0) ≡ None → (x ≡ true) × (y ≡ true)
get_fine true true p e = (refl, refl)
get_fine true false p e = absurd (let z : ◌≡◌ {A = ℕ} 0 1 = cc in omega arith)
get_fine false y p e = absurd (let z : ◌≡◌ {A = ℕ} 0 1 = cc in omega arith)

pub get_parts : (o : KeyOrdering) (s : Pages) (k : ℕ) → get_fault o s k ≡ None → ((leaf_form o (s 0) || root_form o (s 0)) ≡ true) × (leaf_form o (s (leaf_page o s k)) ≡ true)
unfolding get_fault
get_parts o s k e = get_fine (leaf_form o (s 0) || root_form o (s 0)) (leaf_form o (s (leaf_page o s k))) (leaf_page o s k) e

-- ---- the steps

-- a leaf of 13 entries takes the key
half-accepted : (o : KeyOrdering) → TotalOrder o → (u : Pages) (k v : ℕ) → (es : List Entry) × LeafOf o es (u (leaf_page o u k)) × (length es ≡ 13) → Accepted o (Insert (leaf_page o u k) k v ∷ []) u
half-accepted o t u k v half =
    let a = leaf-top o t u k in
    let b = top-few o u in
    let n : length (entries (u (leaf_page o u k))) ≡ 13 = ap length half.1.holds ∙ half.2 in
    let w = insert-writes o u (leaf_page o u k) k v (omega arith) half.1.sized half.1.leaf (half_room o t k v (entries (u (leaf_page o u k))) n) in
    (w.next, w.accepted, tt)

-- two steps, and then the key goes into its leaf
then-last : (o : KeyOrdering) (a b : Step) (k v : ℕ) (s s1 u : Pages) → stepped o a s ≡ Ok s1 → stepped o b s1 ≡ Ok u → Accepted o (Insert (leaf_page o u k) k v ∷ []) u → Accepted o (a ∷ b ∷ Insert (leaf_page o (run_all o (a ∷ b ∷ []) s) k) k v ∷ []) s
then-last o a b k v s s1 u e1 e2 last = subst (λ x. Accepted o (a ∷ b ∷ Insert (leaf_page o x k) k v ∷ []) s) (sym (ran-two o a b s s1 u e1 e2)) (s1, e1, (u, e2, last))

module _ (o : KeyOrdering) (t : TotalOrder o) (s : Pages) (paged : Paged s) where
  any_leaf : (p : ℕ) → p < 64 → leaf_form o (s p) ≡ true → Leaf o (s p)
  any_leaf p l leaf = record { leaf = leaf; holds = refl; words = entries-words (s p) (paged p l).1; sized = (paged p l).0 }

  -- a leaf under any root is split, and the key goes into one of its halves
  cut-accepted : (k v p q : ℕ) → leaf_page o s k ≡ p → 1 ≤ p → p ≤ count (s 0) → root_form o (s 0) ≡ true → full_leaf o (s p) ≡ true → absent (middle_key (s p)) (entries (s 0)) ≡ true → q ≡ count (s 0) + 1 → q ≤ 26
      → Accepted o (Upper p q ∷ Cut p q ∷ Insert (leaf_page o (run_all o (Upper p q ∷ Cut p q ∷ []) s) k) k v ∷ []) s
  cut-accepted k v p q home low up root full away e few =
      let f = full_parts o (s p) full in
      let l = any_leaf p (omega arith) f.1 in
      let bc = blank-count in
      let w1 = upper-writes o s p q (omega arith) (omega arith) full in
      let s1 = w1.next in
      let high1 = upper-leaf o t (s p) l f.0 blank blank-sized (omega arith) in
      let z0 : s1 0 ≡ s 0 = w1.others 0 (λ z. omega arith) in
      let zp : s1 p ≡ s p = w1.others p (λ z. omega arith) in
      let root1 : root_form o (s1 0) ≡ true = ap (root_form o) z0 ∙ root in
      let words1 : Words (entries (s1 0)) = subst (λ c. Words (entries c)) (sym z0) (entries-words (s 0) (paged 0 (omega arith)).1) in
      let up1 : p ≤ count (s1 0) = subst (λ c. p ≤ count c) (sym z0) up in
      let l1 : Leaf o (s1 p) = subst (Leaf o) (sym zp) l in
      let full1 : full_leaf o (s1 p) ≡ true = ap (full_leaf o) zp ∙ full in
      let n1 = (full_parts o (s1 p) full1).0 in
      let away1 : absent (middle_key (s1 p)) (entries (s1 0)) ≡ true = ap (λ c. absent (middle_key c) (entries (s1 0))) zp ∙ ap (λ c. absent (middle_key (s p)) (entries c)) z0 ∙ away in
      let e1 : q ≡ count (s1 0) + 1 = e ∙ ap (λ c. count c + 1) (sym z0) in
      let fits = (root-put o t (count (s1 0)) (entries (s1 0)) (root-parts o (s1 0) root1) (middle_key (s1 p)) q away1 e1 few).size in
      let high2 : LeafOf o (drop 13 (entries (s1 p))) (s1 q) = subst (λ c. LeafOf o (drop 13 (entries c)) (s1 q)) (sym zp) (leaf-at o (drop 13 (entries (s p))) (renew 1 (drop 13 (entries (s p))) blank) (s1 q) w1.there high1) in
      let w2 = cut-writes o s1 p q low (omega arith) (ap length z0 ∙ (paged 0 (omega arith)).0) l1.sized full1 root1 (sym e1) few away1 (omega arith) in
      let u = w2.next in
      let half = cut-half o t s1 u root1 words1 p q low up1 l1 n1 away1 e1 few high2 w2.at-root w2.at_leaf w2.others k (leaf-like o s s1 k z0 ∙ home) in
      then-last o (Upper p q) (Cut p q) k v s s1 u w1.accepted w2.accepted (half-accepted o t u k v half)

  pub any_accepted : o.least < 2 ^ 32 → (k v : ℕ) → k < 2 ^ 32 → v < 2 ^ 32 → put_fault o s k ≡ None → Accepted o (plan o s k v) s
  any_accepted small k v lk lv fine = go (cases_Bool (root_form o (s 0))) (cases_Bool (splits o s k))
    where
      leaf : leaf_form o (s (leaf_page o s k)) ≡ true
      leaf = (get_parts o s k (put-fine o s k fine)).1

      -- page 0 is a leaf: it is a tree
      alone : root_form o (s 0) ≡ false → Tree o s
      alone none = elim (or_cases (leaf_form o (s 0)) (root_form o (s 0)) (get_parts o s k (put-fine o s k fine)).0) [
        | inl y ↦ record { sizes = λ p l. (paged p (omega arith)).0; shape = inl (any_leaf 0 (omega arith) y) }
        | inr y ↦ absurd (both_ways (root_form o (s 0)) none y)
      ]

      go : (root_form o (s 0) ≡ true) ⊎ (root_form o (s 0) ≡ false) → (splits o s k ≡ true) ⊎ (splits o s k ≡ false) → Accepted o (plan o s k v) s
      go (inr none) _ = runs-accepted o (plan o s k v) s (plan-runs o t small s (alone none) k v lk lv fine)
      go (inl root) (inr n) =
          let a = leaf-top o t s k in
          let b = top-few o s in
          let w = insert-writes o s (leaf_page o s k) k v (omega arith) (paged (leaf_page o s k) (omega arith)).0 leaf (unsplit_room o t s k v leaf n) in
          subst (λ sts. Accepted o sts s) (sym (plan-plain o s k v n)) (w.next, w.accepted, tt)
      go (inl root) (inl y) =
          let pr = put-room o s k fine y root in
          let r = root-parts o (s 0) root in
          let l = root-leads o t (count (s 0)) (entries (s 0)) r k in
          let at = leaf-root o s k root in
          let sp = Upper (leaf_page o s k) (count (s 0) + 1) ∷ Cut (leaf_page o s k) (count (s 0) + 1) ∷ [] in
          let e : plan o s k v ≡ sp ++ (Insert (leaf_page o (run_all o sp s) k) k v ∷ []) = plan-split o s k v y ∙ ap (λ x. x ++ (Insert (leaf_page o (run_all o x s) k) k v ∷ [])) (split-under o s k root) in
          subst (λ sts. Accepted o sts s) (sym e) (cut-accepted k v (leaf_page o s k) (count (s 0) + 1) refl (omega arith) (omega arith) root (splits-full o s k y) pr.0 refl (below-full (count (s 0)) r.few pr.1))

pub puts-accepted : (o : KeyOrdering) → TotalOrder o → o.least < 2 ^ 32 → PutsAccepted o
puts-accepted o t small s paged k v lk lv fine = any_accepted o t s paged small k v lk lv fine
