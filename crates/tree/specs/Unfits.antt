-- The tree's own codes.
use Rattle.std.specs.Prelude.{ℕ, Ok, Err, Result}
use Rattle.tree.specs.declared.unfit.Unfit.{Unfit}
use Rattle.tree.specs.declared.unfit.Unfit.TheVariants.{NotOfForm, Full}

abbrev pub code_of : Unfit → ℕ
code_of NotOfForm = 3
code_of Full = 4

-- an answer with the reason against it as a code
abbrev pub coded : {A : Type 0} → Result A Unfit → Result A ℕ
coded (Ok a) = Ok a
coded (Err u) = Err (code_of u)
