-- Refusals and their codes.
use Rattle.std.specs.Prelude.{ℕ, Ok, Err, Result, cond, ◌==◌}
use Rattle.kinds.specs.declared.refusal.Refusal.{Refusal}
use Rattle.kinds.specs.declared.refusal.Refusal.TheVariants.{Malformed, Misfit, Own}

abbrev pub code_of : Refusal → ℕ
code_of Malformed = 1
code_of Misfit = 2
code_of (Own c) = c

-- an answer with its refusal as a code
abbrev pub coded : {A : Type 0} → Result A Refusal → Result A ℕ
coded (Ok a) = Ok a
coded (Err r) = Err (code_of r)

-- the refusal that has a code
abbrev pub refusal_of : ℕ → Refusal
refusal_of c = cond (c == 1) Malformed (cond (c == 2) Misfit (Own c))

-- an answer with its code as a refusal
abbrev pub named : {A : Type 0} → Result A ℕ → Result A Refusal
named (Ok a) = Ok a
named (Err c) = Err (refusal_of c)
