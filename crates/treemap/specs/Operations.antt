-- The operations that a recorder's calls leave, and what they put in.
use Rattle.std.specs.Prelude.{◌≡◌, ℕ, ◌^◌, ◌<◌, cond, List, [], ◌∷◌, ◌++◌, map, take, Some, None, Option, ◌==◌}
use Rattle.tree.specs.declared.step.Step.{Step}
use Rattle.tree.specs.declared.step.Step.TheVariants.{Insert, Lower, Upper, Cut, Grow}
use Rattle.tree.specs.Orders.{KeyOrdering}
use Rattle.tree.specs.Steps.{blank}
use Rattle.treemap.specs.Lookups.{Pages}
use Rattle.treemap.specs.Plans.{stepped, taken, plan, put_fault}

-- an operation: a step on the tree, or any change of the other pages
pub data Operation : Type 0 where
  step : Step → Operation
  file : (Pages → Pages) → Operation

-- a change that leaves the pages below 32, and so those of the tree
abbrev pub SparesTree : (Pages → Pages) → Type 0
SparesTree f = (s : Pages) (p : ℕ) → p < 32 → f s p ≡ s p

-- the pages that an operation makes of pages s
abbrev pub did : KeyOrdering → Operation → Pages → Pages
did o (step st) s = taken (stepped o st s) s
did o (file f) s = f s

-- the pages that operations make of pages s, in order
abbrev pub after_from : KeyOrdering → List Operation → Pages → Pages
after_from o [] s = s
after_from o (x ∷ xs) s = after_from o xs (did o x s)

-- the pages that operations give from blank pages
unfoldable pub after : KeyOrdering → List Operation → Pages
after o ops = after_from o ops (λ _. blank)

-- the operations that a recorder's calls can leave from blank pages, whenever the power fails: a file call leaves one operation, or
-- none; a put that is not refused leaves the first so many steps of its plan
pub data Left (o : KeyOrdering) : List Operation → Type 0 where
  nothing : Left o []
  file_call : (ops : List Operation) (f : Pages → Pages) → Left o ops → SparesTree f → Left o (ops ++ (file f ∷ []))
  put_call : (ops : List Operation) (k v n : ℕ) → Left o ops → k < 2 ^ 32 → v < 2 ^ 32 → put_fault o (after o ops) k ≡ None → Left o (ops ++ take n (map step (plan o (after o ops) k v)))

-- the value of key k after an operation, d before it: an Insert of the key gives it its value
abbrev pub value_by : ℕ → Operation → Option ℕ → Option ℕ
value_by k (step (Insert p j v)) d = cond (j == k) (Some v) d
value_by k (step (Lower p q)) d = d
value_by k (step (Upper p q)) d = d
value_by k (step (Cut p q)) d = d
value_by k (step Grow) d = d
value_by k (file f) d = d

-- the value of key k after operations, d before them
abbrev pub value_after : ℕ → List Operation → Option ℕ → Option ℕ
value_after k [] d = d
value_after k (x ∷ xs) d = value_after k xs (value_by k x d)

-- the value that the last Insert of key k among the operations gave it; none where there is none
unfoldable pub puts_of : List Operation → ℕ → Option ℕ
puts_of ops k = value_after k ops None
