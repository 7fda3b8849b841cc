-- A pair of kinds.
use Rattle.std.specs.Prelude.{ℕ, cond, List, drop, Err, Result, ◌==◌, slice_index}
use Rattle.kinds.specs.Kinds.{Meaning}

-- byte 0 of a body chooses: 1 the first, 2 the second, any other neither
abbrev pub choose : {X : Type 0} → List ℕ → (List ℕ → Result X ℕ) → (List ℕ → Result X ℕ) → Result X ℕ
choose b f g = cond (slice_index b 0 == 1) (f (drop 1 b)) (cond (slice_index b 0 == 2) (g (drop 1 b)) (Err 1))

abbrev pub pair_meaning : Meaning → Meaning → Meaning
pair_meaning m n = record { limit = 4; scope = λ b. choose b m.scope n.scope; effect = λ b old. choose b (λ rest. m.effect rest old) (λ rest. n.effect rest old) }
