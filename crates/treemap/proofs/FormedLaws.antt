-- Plans on any pages: a body can say each step, and only the last one counts for the map.
use Rattle.std.proofs.Common.{◌≡◌, ℕ, zero, suc, ◌+◌, ◌^◌, ◌<◌, ◌≤◌, true, false, cond, not, ◌&&◌, eqb, ltb, leb, ◌⊎◌, List, [], ◌∷◌, ◌++◌, map, length, take, Some, sym, refl, ap, ◌∙◌, subst, inl, inr, arith}
use Rattle.std.specs.List.{AllByRecursion}
use Rattle.std.proofs.ByRecursion.{All-append}
use Rattle.std.proofs.lemmas.Bool.{cases_Bool, and_from, ne_eqb, le-leb, lt-ltb, not_from_false}
use Rattle.tree.specs.declared.step.Step.{Step}
use Rattle.tree.specs.declared.step.Step.TheVariants.{Insert, Lower, Upper, Cut, Grow}
use Rattle.tree.specs.Orders.{KeyOrdering, TotalOrder}
use Rattle.tree.specs.Nodes.{count, entries, root_form}
use Rattle.tree.specs.Steps.{page_pair}
use Rattle.treemap.specs.Lookups.{Pages, leaf_page}
use Rattle.treemap.specs.Plans.{run_all, splits, splitting, plan}
use Rattle.treemap.specs.Bodies.{formed}
use Rattle.treemap.specs.Operations.{step, value_after}
use Rattle.treemap.specs.Laws.{PlansFormed, LastCounts}
use Rattle.treemap.proofs.FormLaws.{root-parts, root-leads}
use Rattle.treemap.proofs.TreeInvariantLaws.{leaf-root, leaf-top, top-few}
use Rattle.treemap.proofs.PlanLaws.{put-room, below-full, plan-plain, plan-split, split-alone, split-under}

two_from : (p q : ℕ) → p ≤ 26 → 1 ≤ q → q ≤ 26 → (p ≡ q → ⊥) → page_pair p q ≡ true
two_from p q a b c d =
    and_from (leb p 26) (leb 1 q && (leb q 26 && not (eqb p q))) (le-leb p 26 a)
    (and_from (leb 1 q) (leb q 26 && not (eqb p q)) (le-leb 1 q b) (and_from (leb q 26) (not (eqb p q)) (le-leb q 26 c) (not_from_false (eqb p q) (ne_eqb p q d))))

insert-formed : (p k v : ℕ) → p ≤ 26 → k < 2 ^ 32 → v < 2 ^ 32 → formed (Insert p k v) ≡ true
insert-formed p k v lp lk lv = and_from (leb p 26) (ltb k (2 ^ 32) && ltb v (2 ^ 32)) (le-leb p 26 lp) (and_from (ltb k (2 ^ 32)) (ltb v (2 ^ 32)) (lt-ltb k (2 ^ 32) lk) (lt-ltb v (2 ^ 32) lv))

-- every key's leaf is on one of the pages 0 to 26
pub leaf-within : (o : KeyOrdering) → TotalOrder o → (s : Pages) (k : ℕ) → leaf_page o s k ≤ 26
leaf-within o t s k = let a = leaf-top o t s k in let b = top-few o s in omega arith

pub plans_formed_lem : (o : KeyOrdering) → TotalOrder o → PlansFormed o
plans_formed_lem o t s k v lk lv fine = go (cases_Bool (splits o s k)) (cases_Bool (root_form o (s 0)))
  where
    Formed : List Step → Type 0
    Formed sts = AllByRecursion (λ st. formed st ≡ true) sts

    into : (u : Pages) → Formed (Insert (leaf_page o u k) k v ∷ [])
    into u = (insert-formed (leaf_page o u k) k v (leaf-within o t u k) lk lv, tt)

    after-split : (sp : List Step) → splitting o s k ≡ sp → splits o s k ≡ true → Formed sp → Formed (plan o s k v)
    after-split sp e y f =
        subst Formed (sym (plan-split o s k v y)) (All-append (λ st. formed st ≡ true) (splitting o s k) (Insert (leaf_page o (run_all o (splitting o s k) s) k) k v ∷ []) (subst Formed (sym e) f) (into (run_all o (splitting o s k) s)))

    go : (splits o s k ≡ true) ⊎ (splits o s k ≡ false) → (root_form o (s 0) ≡ true) ⊎ (root_form o (s 0) ≡ false) → Formed (plan o s k v)
    go (inr n) _ = subst Formed (sym (plan-plain o s k v n)) (into s)
    go (inl y) (inr none) = after-split (Lower 0 1 ∷ Upper 0 2 ∷ Grow ∷ []) (split-alone o s k none) y (refl, (refl, (refl, tt)))
    go (inl y) (inl root) =
        let r = root-parts o (s 0) root in
        let l = root-leads o t (count (s 0)) (entries (s 0)) r k in
        let at = leaf-root o s k root in
        let few = below-full (count (s 0)) r.few (put-room o s k fine y root).1 in
        let two = two_from (leaf_page o s k) (count (s 0) + 1) (omega arith) (omega arith) (omega arith) (λ e. omega arith) in
        after-split (Upper (leaf_page o s k) (count (s 0) + 1) ∷ Cut (leaf_page o s k) (count (s 0) + 1) ∷ []) (split-under o s k root) y
        (two, (and_from (leb 1 (leaf_page o s k)) (page_pair (leaf_page o s k) (count (s 0) + 1)) (le-leb 1 (leaf_page o s k) (omega arith)) two, tt))

-- ---- only the last step counts

pub last-counts : (o : KeyOrdering) → LastCounts o
last-counts o s k v j d = go (cases_Bool (splits o s k)) (cases_Bool (root_form o (s 0)))
  where
    Counts : List Step → Type 0
    Counts sts = (value_after j (map step sts) d ≡ cond (eqb k j) (Some v) d) × ((n : ℕ) → n < length sts → value_after j (take n (map step sts)) d ≡ d)

    go : (splits o s k ≡ true) ⊎ (splits o s k ≡ false) → (root_form o (s 0) ≡ true) ⊎ (root_form o (s 0) ≡ false) → Counts (plan o s k v)
    go (inr n) _ = subst Counts (sym (plan-plain o s k v n)) (refl, short)
      where
        short : (n : ℕ) → n < 1 → value_after j (take n (map step (Insert (leaf_page o s k) k v ∷ []))) d ≡ d
        short zero l = refl
        short (suc n) l = absurd (omega arith)
    go (inl y) (inr none) = subst Counts (sym (plan-split o s k v y ∙ ap (λ sp. sp ++ (Insert (leaf_page o (run_all o sp s) k) k v ∷ [])) (split-alone o s k none))) (refl, short)
      where
        short : (n : ℕ) → n < 4 → value_after j (take n (map step (Lower 0 1 ∷ Upper 0 2 ∷ Grow ∷ Insert (leaf_page o (run_all o (Lower 0 1 ∷ Upper 0 2 ∷ Grow ∷ []) s) k) k v ∷ []))) d ≡ d
        short zero l = refl
        short (suc zero) l = refl
        short (suc (suc zero)) l = refl
        short (suc (suc (suc zero))) l = refl
        short (suc (suc (suc (suc n)))) l = absurd (omega arith)
    go (inl y) (inl root) = subst Counts (sym (plan-split o s k v y ∙ ap (λ sp. sp ++ (Insert (leaf_page o (run_all o sp s) k) k v ∷ [])) (split-under o s k root))) (refl, short (leaf_page o s k) (count (s 0) + 1) (leaf_page o (run_all o (Upper (leaf_page o s k) (count (s 0) + 1) ∷ Cut (leaf_page o s k) (count (s 0) + 1) ∷ []) s) k))
      where
        short : (p q r n : ℕ) → n < 3 → value_after j (take n (map step (Upper p q ∷ Cut p q ∷ Insert r k v ∷ []))) d ≡ d
        short p q r zero l = refl
        short p q r (suc zero) l = refl
        short p q r (suc (suc zero)) l = refl
        short p q r (suc (suc (suc n))) l = absurd (omega arith)
