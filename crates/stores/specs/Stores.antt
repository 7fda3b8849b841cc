-- A page store: 64 images, and live, dead or short; what reading, installing and power-on do to it.
use Rattle.std.specs.Prelude.{◌≡◌, ℕ, ◌<◌, Bool, true, false, cond, not, ◌&&◌, List, length, Some, None, Option, MatchOption, ◌==◌, nat_le, nat_lt, slice_index}
use Rattle.sets.specs.Sets.{has}
use Rattle.faults.specs.declared.fault.Fault.TheVariants.{NoSuchPage, WrongLength, PowerLost, TooShort}
use Rattle.faults.specs.Faults.{Report, report}
use Rattle.media.specs.Media.{Device, block_count, check}
use Rattle.media.specs.Plans.{Write, Ran}
use Rattle.stores.specs.Images.{blank, pictured}
use Rattle.stores.specs.Layout.{page_in}

-- a short store stands on too few blocks; whether it does never changes
pub data State : Type 0 where
  Live : State
  Dead : State
  Short : State

-- the image of each page, and the state
pub record Store : Type 0 where
  pub image : ℕ → List ℕ
  pub state : State

abbrev pub is_short : State → Bool
is_short Live = false
is_short Dead = false
is_short Short = true

abbrev pub is_dead : State → Bool
is_dead Live = false
is_dead Dead = true
is_dead Short = false

-- a store of 129 blocks on a medium; on fewer its images are blank
abbrev pub store_on : Device → Store
store_on m = cond (nat_le 129 (block_count m))
    (record { image = page_in m.blocks; state = cond m.live Live Dead })
    (record { image = λ _. blank; state = Short })

-- ---- reading: live or dead, and nothing changes

abbrev pub read_fault : Store → ℕ → List ℕ → Option Report
read_fault s p buffer =
    check (not (nat_lt p 64)) (report (NoSuchPage p))
    (check (not (length buffer == 256)) (report (WrongLength (length buffer)))
    (check (is_short s.state) (report TooShort)
    None))

abbrev pub read_into : Store → ℕ → List ℕ → List ℕ
read_into s p buffer = cond ((nat_lt p 64 && length buffer == 256) && not (is_short s.state)) (s.image p) buffer

-- ---- installing: all pages of the set, or none

-- How an install ends that a live store begins: it passes, or the power fails at the i-th of the blocks that it writes,
-- and leaves all pages of the set old or all new. This is the one thing that an install leaves free.
pub data Ending : Type 0 where
  Passes : Ending
  FailsOld : ℕ → Ending
  FailsNew : ℕ → Ending

-- the power can fail only at a block that the install writes
abbrev pub Possible : Ending → List ℕ → Type 0
Possible Passes plan = Unit {0}
Possible (FailsOld i) plan = i < length plan
Possible (FailsNew i) plan = i < length plan

-- the images after the pages of the set took theirs
abbrev pub installed : ℕ → List ℕ → (ℕ → List ℕ) → ℕ → List ℕ
installed set images old p = cond (has set p) (pictured images p) (old p)

-- of the blocks that are written, in order: the i-th
abbrev pub block_of : List ℕ → ℕ → ℕ
block_of plan i = slice_index plan i

abbrev pub end_fault : Ending → List ℕ → Option Report
end_fault Passes plan = None
end_fault (FailsOld i) plan = Some (report (PowerLost (block_of plan i)))
end_fault (FailsNew i) plan = Some (report (PowerLost (block_of plan i)))

abbrev pub end_store : Ending → ℕ → List ℕ → Store → Store
end_store Passes set images s = record { image = installed set images s.image; state = Live }
end_store (FailsOld i) set images s = record { image = s.image; state = Dead }
end_store (FailsNew i) set images s = record { image = installed set images s.image; state = Dead }

-- an empty set writes nothing, and passes on a dead store too
abbrev pub install_fault : Ending → Store → List ℕ → ℕ → List ℕ → Option Report
install_fault e s plan set images =
    check (not (length images == 16384)) (report (WrongLength (length images)))
    (check (is_short s.state) (report TooShort)
    (cond (set == 0) None
    (check (is_dead s.state) (report (PowerLost (block_of plan 0)))
    (end_fault e plan))))

-- the install is carried out, however it ends
abbrev pub begins : Store → ℕ → List ℕ → Bool
begins s set images = (length images == 16384 && not (set == 0)) && is_live s.state
  where
    is_live : State → Bool
    is_live Live = true
    is_live Dead = false
    is_live Short = false

abbrev pub after_install : Ending → Store → ℕ → List ℕ → Store
after_install e s set images = cond (begins s set images) (end_store e set images s) s

-- an install of a set, which writes the blocks of the plan, answers o and leaves s'
pub record InstalledBy (e : Ending) (s : Store) (plan : List ℕ) (set : ℕ) (images : List ℕ) (o : Option Report) (s' : Store) : Type 0 where
  pub possible : Possible e plan
  pub answer : o ≡ install_fault e s plan set images
  pub after : s' ≡ after_install e s set images

-- the same with some ending
abbrev pub Installed : Store → List ℕ → ℕ → List ℕ → Option Report → Store → Type 0
Installed s plan set images o s' = (e : Ending) × InstalledBy e s plan set images o s'

-- ---- the same, block by block

-- the checks ahead of the first write
abbrev pub install_check : Device → List ℕ → Option Report
install_check m images =
    check (not (length images == 16384)) (report (WrongLength (length images)))
    (check (not (nat_le 129 (block_count m))) (report TooShort)
    None)

-- an install that passes its checks runs just the writes ws on the medium; one that does not writes nothing
abbrev pub Carried : Device → List Write → List ℕ → Option Report → Device → Type 0
Carried m ws images o m' = MatchOption (install_check m images) (Ran m ws o m') (λ r. (o ≡ Some r) × (m' ≡ m))

-- ---- power-on: a dead store lives, and no image changes

abbrev pub revived : State → State
revived Live = Live
revived Dead = Live
revived Short = Short

abbrev pub powered : Store → Store
powered s = record { image = s.image; state = revived s.state }
