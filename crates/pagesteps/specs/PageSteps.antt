-- The steps of the table of situations are operations of the page kind.
use Rattle.std.specs.Prelude.{◌≡◌, ℕ, ◌*◌, ◌<◌, true, List, [], ◌∷◌, length, Some, Ok, ◌≢◌}
use Rattle.std.specs.List.{flat_map, AllByRecursion}
use Rattle.sets.specs.Sets.{has, count, pages}
use Rattle.sets.specs.Words.{part}
use Rattle.kinds.specs.Actions.{page_meaning}
use Rattle.redo.specs.Situations.{Step, fill, copy, swap, operation_of, table}

-- the body by which the page kind knows a step: a copy is of one page
abbrev pub body_of : Step → List ℕ
body_of (fill p b) = 2 ∷ p ∷ b ∷ []
body_of (copy s t) = 3 ∷ s ∷ t ∷ 1 ∷ []
body_of (swap a b) = 4 ∷ a ∷ b ∷ []

-- its pages are among the 64, and the two pages of a copy or a swap differ
abbrev pub Allowed : Step → Type 0
Allowed (fill p b) = p < 64
Allowed (copy s t) = (s < 64) × (t < 64) × (s ≢ t)
Allowed (swap a b) = (a < 64) × (b < 64) × (a ≢ b)

-- the contents of the pages of a set, rising
abbrev pub gathered : ℕ → (ℕ → List ℕ) → List ℕ
gathered set contents = flat_map contents (pages set)

-- of contents that stand one after another for the pages of a set, rising: those of page p
abbrev pub share_of : ℕ → List ℕ → ℕ → List ℕ
share_of set new p = part (224 * count (has set) p) 224 new

-- both have an effect on these contents, and it is the same: a written page's share of what the kind gives is what the step gives it
pub record SameEffect (st : Step) (reads writes : ℕ) (contents : ℕ → List ℕ) : Type 0 where
  pub new : List ℕ
  pub value : ℕ → List ℕ
  pub kind_gives : page_meaning.effect (body_of st) (gathered reads contents) ≡ Ok new
  pub step_gives : (operation_of st).effect contents ≡ Some value
  pub shares : (q : ℕ) → has writes q ≡ true → share_of writes new q ≡ value q

-- the kind accepts the step's body, it reads and writes the step's pages, and its effect is the step's on any pages of 224 bytes
pub record IsStep (st : Step) : Type 0 where
  pub reads : ℕ
  pub writes : ℕ
  pub scope : page_meaning.scope (body_of st) ≡ Ok (reads, writes)
  pub reads_same : (q : ℕ) → has reads q ≡ (operation_of st).reads q
  pub writes_same : (q : ℕ) → has writes q ≡ (operation_of st).writes q
  pub effect_same : (contents : ℕ → List ℕ) → ((q : ℕ) → length (contents q) ≡ 224) → SameEffect st reads writes contents

-- every allowed step is an operation of the page kind
abbrev pub PageKindSteps : Type 0
PageKindSteps = (st : Step) → Allowed st → IsStep st

-- every step of the table is allowed
abbrev pub TableAllowed : Type 0
TableAllowed = AllByRecursion (λ row. AllByRecursion Allowed row.steps) table
