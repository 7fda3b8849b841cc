-- The blocks that wait to be written to the log, oldest first.
use Rattle.std.specs.Prelude.{ℕ, Bool, cond, List, [], ◌∷◌, ◌++◌, length, nat_lt}
use Rattle.tables.specs.declared.waiting.Waiting.{Waiting}

abbrev pub waiting : Waiting → List (List ℕ)
waiting w = w.blocks.items

-- whether one more block can wait
abbrev pub room : List (List ℕ) → Bool
room bs = nat_lt (length bs) 16

-- with one more block behind the others, where there is room
abbrev pub pushed : List (List ℕ) → List ℕ → List (List ℕ)
pushed bs b = cond (room bs) (bs ++ b ∷ []) bs
