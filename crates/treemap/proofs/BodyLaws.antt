-- Bodies and the steps that they say.
use Rattle.std.proofs.Common.{◌≡◌, ℕ, ◌+◌, ◌*◌, ◌^◌, ◌<◌, true, ◌&&◌, eqb, ltb, leb, List, [], ◌∷◌, length, Some, None, Err, sym, refl, ap, ◌∙◌, ap₂, mul-suc, arith}
use Rattle.std.specs.List.{flat_map, AllByRecursion}
use Rattle.std.proofs.ByRecursion.{All-weaker}
use Rattle.std.proofs.lemmas.List.{length-append}
use Rattle.std.proofs.lemmas.Bool.{and_parts, and_from, cond-true, eq-eqb, ltb-true}
use Rattle.sets.specs.Sets.{has, size, pages}
use Rattle.sets.specs.Words.{number, bytes_of}
use Rattle.sets.proofs.SetLaws.{rising-count, rising-all}
use Rattle.sets.proofs.WordLaws.{number-bytes}
use Rattle.tree.specs.declared.step.Step.TheVariants.{Insert, Lower, Upper, Cut, Grow}
use Rattle.tree.specs.Orders.{KeyOrdering}
use Rattle.tree.specs.Steps.{parse, page_pair, sets, change, scope_by, effect_by}
use Rattle.treemap.specs.Lookups.{Pages}
use Rattle.treemap.specs.Plans.{gathered, stepped_by, stepped}
use Rattle.treemap.specs.Laws.{BodiesSay, KindSteps}

pub bodies-say : BodiesSay
unfolding parse
bodies-say (Insert p k v) h =
    let a = and_parts (leb p 26) (ltb k (2 ^ 32) && ltb v (2 ^ 32)) h in
    let b = and_parts (ltb k (2 ^ 32)) (ltb v (2 ^ 32)) a.1 in
    cond-true (leb p 26 && true) (Some (Insert p (number (bytes_of 4 k)) (number (bytes_of 4 v)))) None (and_from (leb p 26) true a.0 refl)
    ∙ ap₂ (λ x y. Some (Insert p x y)) (number-bytes 4 k (ltb-true k (2 ^ 32) b.0)) (number-bytes 4 v (ltb-true v (2 ^ 32) b.1))
bodies-say (Lower p q) h = cond-true (page_pair p q) (Some (Lower p q)) None h
bodies-say (Upper p q) h = cond-true (page_pair p q) (Some (Upper p q)) None h
bodies-say (Cut p q) h = cond-true (leb 1 p && page_pair p q) (Some (Cut p q)) None h
bodies-say Grow h = refl

-- ---- the kind

joined_length : (k : ℕ) (s : Pages) (ps : List ℕ) → AllByRecursion (λ p. length (s p) ≡ k) ps → length (flat_map s ps) ≡ k * length ps
joined_length k s [] a = omega arith
joined_length k s (p ∷ ps) a = length-append (s p) (flat_map s ps) ∙ ap₂ ◌+◌ a.0 (joined_length k s ps a.1) ∙ omega (arith, mul-suc k (length ps))

gathered-length : (r : ℕ) (s : Pages) → ((p : ℕ) → p < 64 → length (s p) ≡ 224) → length (gathered r s) ≡ 224 * size r
gathered-length r s sized =
    joined_length 224 s (pages r) (All-weaker (λ p. (p < 64) × (has r p ≡ true)) (λ p. length (s p) ≡ 224) (λ p h. sized p h.0) (pages r) (rising-all (has r) 64)) ∙ ap (λ n. 224 * n) (rising-count (has r) 64)

pub kind_steps_lem : (o : KeyOrdering) → KindSteps o
unfolding stepped
kind_steps_lem o b st s said sized = (
  ap scope_by said,
  ap (stepped_by (sets st).1 s) (sym (ap (λ x. effect_by o x (gathered (sets st).0 s)) said ∙ cond-true (eqb (length (gathered (sets st).0 s)) (224 * size (sets st).0)) (change o st (gathered (sets st).0 s)) (Err 2) (eq-eqb (length (gathered (sets st).0 s)) (224 * size (sets st).0) (gathered-length (sets st).0 s sized)))),
)
