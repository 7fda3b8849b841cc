-- The bodies that say steps.
use Rattle.std.specs.Prelude.{ℕ, ◌^◌, Bool, true, ◌&&◌, List, [], ◌∷◌, ◌++◌, nat_le, nat_lt}
use Rattle.sets.specs.Words.{bytes_of}
use Rattle.tree.specs.declared.step.Step.{Step}
use Rattle.tree.specs.declared.step.Step.TheVariants.{Insert, Lower, Upper, Cut, Grow}
use Rattle.tree.specs.Steps.{page_pair}

-- the body of a step
abbrev pub body_of : Step → List ℕ
body_of (Insert p k v) = 1 ∷ p ∷ (bytes_of 4 k ++ bytes_of 4 v)
body_of (Lower p q) = 2 ∷ p ∷ q ∷ []
body_of (Upper p q) = 3 ∷ p ∷ q ∷ []
body_of (Cut p q) = 4 ∷ p ∷ q ∷ []
body_of Grow = 5 ∷ []

-- whether a body can say a step: its pages are among those of the tree, key and value have four bytes
abbrev pub formed : Step → Bool
formed (Insert p k v) = nat_le p 26 && (nat_lt k (2 ^ 32) && nat_lt v (2 ^ 32))
formed (Lower p q) = page_pair p q
formed (Upper p q) = page_pair p q
formed (Cut p q) = nat_le 1 p && page_pair p q
formed Grow = true
