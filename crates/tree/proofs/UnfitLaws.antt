-- What the tree's own codes say.
use Rattle.std.proofs.Common.{◌≡◌, ℕ, Err, Result, refl, ap, ◌∙◌}
use Rattle.kinds.specs.Refusals.{refusal_of, named}
use Rattle.kinds.specs.declared.refusal.Refusal.TheVariants.{Own}
use Rattle.tree.specs.Unfits.{code_of}
use Rattle.tree.specs.declared.unfit.Unfit.{Unfit}
use Rattle.tree.specs.declared.unfit.Unfit.TheVariants.{NotOfForm, Full}

-- a code of the tree's own stays one
own : (u : Unfit) → Own (code_of u) ≡ refusal_of (code_of u)
own NotOfForm = refl
own Full = refl

-- where a step answers a code of the tree's own
pub unfit_named : {A : Type 0} (u : Unfit) (a : Result A ℕ) → Err (code_of u) ≡ a → Err (Own (code_of u)) ≡ named a
unfit_named u a e = ap Err (own u) ∙ ap named e
