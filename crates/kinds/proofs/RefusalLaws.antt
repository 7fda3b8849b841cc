-- What the refusals of a call say.
use Rattle.std.proofs.Common.{inl, inr, ◌≡◌, ◌*◌, Bool, true, false, cond, ◌&&◌, eqb, ℕ, Some, None, Option, Ok, Err, Result, List, refl, sym, ap, ◌∙◌}
use Rattle.std.proofs.lemmas.Bool.{and_parts, eqb-true, cases_Bool}
use Rattle.std.proofs.lemmas.Result.{err_from_is_err_and}
use Rattle.std.specs.Option.{ok_or}
use Rattle.std.specs.Result.{IsErrAnd}
use Rattle.sets.specs.Sets.{size}
use Rattle.kinds.specs.Kinds.{answer}
use Rattle.kinds.specs.Refusals.{code_of, coded, refusal_of, named}
use Rattle.kinds.specs.declared.refusal.Refusal.{Refusal}
use Rattle.kinds.specs.declared.refusal.Refusal.TheVariants.{Malformed, Misfit, Own}

-- the refusal that has a code has that code
pub code_named : (c : ℕ) → code_of (refusal_of c) ≡ c
code_named c = elim (cases_Bool (eqb c 1)) [
  | inl one ↦ ap (λ b. code_of (cond b Malformed (cond (eqb c 2) Misfit (Own c)))) one ∙ sym (eqb-true c 1 one)
  | inr other ↦ ap (λ b. code_of (cond b Malformed (cond (eqb c 2) Misfit (Own c)))) other ∙ elim (cases_Bool (eqb c 2)) [
    | inl two ↦ ap (λ b. code_of (cond b Misfit (Own c))) two ∙ sym (eqb-true c 2 two)
    | inr own ↦ ap (λ b. code_of (cond b Misfit (Own c))) own
  ]
]

-- an answer whose code is told as a refusal has that code
pub coded_named : {A : Type 0} (r : Result A ℕ) → coded (named r) ≡ r
coded_named (Ok a) = refl
coded_named (Err c) = ap Err (code_named c)

-- the exit of a `?` that hands on refusal r
pub handed_on : {A : Type 0} (x : Result A Refusal) (r : Refusal) → IsErrAnd x (λ y. y ≡ r) → x ≡ Err r
handed_on x r h =
    let p = err_from_is_err_and x h in
    p.1 ∙ ap Err p.2

-- where the reply is code c
pub refused : (x : Result (Unit {0}) Refusal) (r : Refusal) (c : ℕ) (m : Result (List ℕ) ℕ) → IsErrAnd x (λ y. y ≡ r) → refusal_of c ≡ r → m ≡ Err c → x ≡ named (answer m)
refused x r c m h e k = handed_on x r h ∙ ap Err (sym e) ∙ ap (λ a. named (answer a)) (sym k)

-- a body that says nothing
pub malformed : {A : Type 0} (o : Option A) (r : Refusal) → Err r ≡ ok_or o Malformed → Malformed ≡ r
malformed None r e = cc
malformed (Some a) r e = cc

-- whether two buffers have the lengths of two sets
abbrev pub fits : ℕ → ℕ → ℕ × ℕ → Bool
fits k n s = eqb k (224 * size s.0) && eqb n (224 * size s.1)

abbrev pub tested : Bool → Result (Unit {0}) Refusal
tested t = cond t (Ok tt) (Err Misfit)

misfit_at : (t : Bool) (r : Refusal) → Err r ≡ tested t → (t ≡ false) × (Misfit ≡ r)
misfit_at true r e = absurd (cc)
misfit_at false r e = (refl, (cc))

fit_at : (t : Bool) → Ok tt ≡ tested t → t ≡ true
fit_at true e = refl
fit_at false e = cc

-- the test of the lengths, at the sets z that were asked
pub misfit : (k n : ℕ) (s z : ℕ × ℕ) (r : Refusal) → s ≡ z → Err r ≡ tested (fits k n s) → (fits k n z ≡ false) × (Misfit ≡ r)
misfit k n s z r e h = let m = misfit_at (fits k n s) r h in (ap (fits k n) (sym e) ∙ m.0, m.1)

pub fit : (k n : ℕ) (s z : ℕ × ℕ) → s ≡ z → Ok tt ≡ tested (fits k n s) → fits k n z ≡ true
fit k n s z e h = ap (fits k n) (sym e) ∙ fit_at (fits k n s) h

-- the lengths that pass
pub fit-lengths : (k n : ℕ) (z : ℕ × ℕ) → fits k n z ≡ true → (k ≡ 224 * size z.0) × (n ≡ 224 * size z.1)
fit-lengths k n z t =
    let x = and_parts (eqb k (224 * size z.0)) (eqb n (224 * size z.1)) t in
    (eqb-true k (224 * size z.0) x.0, eqb-true n (224 * size z.1) x.1)
