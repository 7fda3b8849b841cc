-- An operation of a kind, done on the working pages.
use Rattle.std.specs.Prelude.{ℕ, List, Ok, Err, Result}
use Rattle.kinds.specs.Kinds.{Meaning}
use Rattle.volume.specs.Working.{gathered, written}

-- what the kind makes of the pages that an operation reads: the new contents of those that it writes, or a code
abbrev pub outcome : Meaning → List ℕ → ℕ → (ℕ → List ℕ) → Result (List ℕ) ℕ
outcome k body reads images = k.effect body (gathered reads images)

-- the images after it: the written pages take their contents and the operation's number; a refusal leaves all
abbrev pub performed : Result (List ℕ) ℕ → ℕ → ℕ → (ℕ → List ℕ) → ℕ → List ℕ
performed (Ok new) writes n images = written writes n new images
performed (Err c) writes n images = images
