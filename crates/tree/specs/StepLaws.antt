-- Bodies of the tree kind.
use Rattle.std.specs.Prelude.{◌≡◌, ℕ, ◌*◌, ◌<◌, ◌≤◌, Bool, true, false, not, ◌&&◌, ◌||◌, List, length, drop, Some, None, ◌==◌, nat_eq, nat_le, slice_index, refl}
use Rattle.std.proofs.Common.{subst, arith}
use Rattle.std.proofs.lemmas.Bool.{cond_both, and_parts, leb-true}
use Rattle.sets.specs.Sets.{size}
use Rattle.sets.specs.Words.{number, part}
use Rattle.tree.specs.declared.step.Step.{Step}
use Rattle.tree.specs.declared.step.Step.TheVariants.{Insert, Lower, Upper, Cut, Grow}
use Rattle.kinds.specs.Kinds.{Scoped}
use Rattle.kinds.specs.PageSetLaws.{set_below, size-only, size-both}
use Rattle.tree.specs.Steps.{parse, when, page_pair, insert_from, sets, Ready}

-- ---- what a body that is parsed says

when-by : (P : Step → Type 0) (ok : Bool) (x a : Step) → (ok ≡ true → P x) → when ok x ≡ Some a → P a
when-by P true x a h e = let same : x ≡ a = cc in subst P same (h refl)
when-by P false x a h e = let z : ◌≡◌ {A = ℕ} 0 1 = cc in absurd (omega arith)

-- a step that a body can say
abbrev pub Good : Step → Type 0
Good (Insert p k v) = p < 64
Good (Lower p q) = (p < 64) × (q < 64)
Good (Upper p q) = (p < 64) × (q < 64)
Good (Cut p q) = (1 ≤ p) × (p < 64) × (q ≤ 26)
Good Grow = Unit {0}

two : (p q : ℕ) → page_pair p q ≡ true → (p ≤ 26) × (q ≤ 26)
two p q h =
    let x = and_parts (nat_le p 26) (nat_le 1 q && (nat_le q 26 && not (p == q))) h in
    let y = and_parts (nat_le 1 q) (nat_le q 26 && not (p == q)) x.1 in
    let z = and_parts (nat_le q 26) (not (p == q)) y.1 in
    (leb-true p 26 x.0, leb-true q 26 z.0)

pub parse-good : (b : List ℕ) (a : Step) → parse b ≡ Some a → Good a
unfolding parse
parse-good b a =
    cond_both (slice_index b 0 == 1 && nat_le 2 (length b)) (insert_from (slice_index b 1) (drop 2 b)) _ (λ o. o ≡ Some a → Good a)
    (λ _. when-by Good (nat_le (slice_index b 1) 26 && length (drop 2 b) == 8) (Insert (slice_index b 1) (number (part 0 4 (drop 2 b))) (number (part 4 4 (drop 2 b)))) a (λ h. small (slice_index b 1) (and_parts (nat_le (slice_index b 1) 26) (length (drop 2 b) == 8) h).0))
    (λ _. cond_both (slice_index b 0 == 2 && length b == 3) (when (page_pair (slice_index b 1) (slice_index b 2)) (Lower (slice_index b 1) (slice_index b 2))) _ (λ o. o ≡ Some a → Good a)
    (λ _. when-by Good (page_pair (slice_index b 1) (slice_index b 2)) (Lower (slice_index b 1) (slice_index b 2)) a (λ h. wide (slice_index b 1) (slice_index b 2) h))
    (λ _. cond_both (slice_index b 0 == 3 && length b == 3) (when (page_pair (slice_index b 1) (slice_index b 2)) (Upper (slice_index b 1) (slice_index b 2))) _ (λ o. o ≡ Some a → Good a)
    (λ _. when-by Good (page_pair (slice_index b 1) (slice_index b 2)) (Upper (slice_index b 1) (slice_index b 2)) a (λ h. wide (slice_index b 1) (slice_index b 2) h))
    (λ _. cond_both (slice_index b 0 == 4 && length b == 3) (when (nat_le 1 (slice_index b 1) && page_pair (slice_index b 1) (slice_index b 2)) (Cut (slice_index b 1) (slice_index b 2))) _ (λ o. o ≡ Some a → Good a)
    (λ _. when-by Good (nat_le 1 (slice_index b 1) && page_pair (slice_index b 1) (slice_index b 2)) (Cut (slice_index b 1) (slice_index b 2)) a (λ h. cuts (slice_index b 1) (slice_index b 2) h))
    (λ _. cond_both (slice_index b 0 == 5 && length b == 1) (Some Grow) None (λ o. o ≡ Some a → Good a)
    (λ _ e. let same : Grow ≡ a = cc in subst Good same tt)
    (λ _ e. let z : ◌≡◌ {A = ℕ} 0 1 = cc in absurd (omega arith))))))
  where
    small : (p : ℕ) → nat_le p 26 ≡ true → p < 64
    small p h = omega (arith, leb-true p 26 h)

    wide : (p q : ℕ) → page_pair p q ≡ true → (p < 64) × (q < 64)
    wide p q h = let t = two p q h in (omega arith, omega arith)

    cuts : (p q : ℕ) → (nat_le 1 p && page_pair p q) ≡ true → (1 ≤ p) × (p < 64) × (q ≤ 26)
    cuts p q h =
        let x = and_parts (nat_le 1 p) (page_pair p q) h in
        let t = two p q x.1 in
        (leb-true 1 p x.0, omega arith, t.1)

pub step-scoped : (s : Step) → Good s → Scoped 2 (sets s).0 (sets s).1
step-scoped (Insert p k v) g = let s = size-only p g in record { reads_pages = set_below (λ q. nat_eq q p); writes_pages = set_below (λ q. nat_eq q p); reads_few = omega arith; writes_few = omega arith; writes_some = omega arith }
step-scoped (Lower p q) g = let s = size-only p g.0 in let t = size-only q g.1 in record { reads_pages = set_below (λ x. nat_eq x p); writes_pages = set_below (λ x. nat_eq x q); reads_few = omega arith; writes_few = omega arith; writes_some = omega arith }
step-scoped (Upper p q) g = let s = size-only p g.0 in let t = size-only q g.1 in record { reads_pages = set_below (λ x. nat_eq x p); writes_pages = set_below (λ x. nat_eq x q); reads_few = omega arith; writes_few = omega arith; writes_some = omega arith }
step-scoped (Cut p q) g = let s = size-both 0 p (omega arith) g.1 (λ e. omega arith) in record { reads_pages = set_below (λ x. (x == 0) || x == p); writes_pages = set_below (λ x. (x == 0) || x == p); reads_few = omega arith; writes_few = omega arith; writes_some = omega arith }
step-scoped Grow g = let s = size-only 0 (omega arith) in record { reads_pages = set_below (λ q. nat_eq q 0); writes_pages = set_below (λ q. nat_eq q 0); reads_few = omega arith; writes_few = omega arith; writes_some = omega arith }

pub step-ready : (s : Step) (k n : ℕ) → Good s → k ≡ 224 * size (sets s).0 → n ≡ 224 * size (sets s).1 → Ready s k n
step-ready (Insert p x v) k n g ek en = let s = size-only p g in (omega arith, omega arith)
step-ready (Lower p q) k n g ek en = let s = size-only p g.0 in let t = size-only q g.1 in (omega arith, omega arith)
step-ready (Upper p q) k n g ek en = let s = size-only p g.0 in let t = size-only q g.1 in (omega arith, omega arith)
step-ready (Cut p q) k n g ek en = let s = size-both 0 p (omega arith) g.1 (λ e. omega arith) in (omega arith, omega arith, g.2)
step-ready Grow k n g ek en = let s = size-only 0 (omega arith) in (omega arith, omega arith)
