-- Replays: lists of calls that a program makes, with the answers that it gets.
use Rattle.std.specs.Prelude.{◌≡◌, ℕ, min, Bool, true, false, List, [], ◌∷◌, ◌++◌, length, take, drop, Some, None, Ok, Err, Result}
use Rattle.faults.specs.declared.fault.Fault.{Fault}
use Rattle.faults.specs.Faults.{Report, report}
use Rattle.media.specs.declared.fate.Fate.{Fate}
use Rattle.media.specs.Media.{Device}
use Rattle.media.specs.declared.medium.Medium as Medium
use Rattle.stores.specs.Stores.{Store}
use Rattle.stores.specs.declared.store.PageStore as PageStore
use Rattle.kinds.specs.Kinds.{Meaning}
use Rattle.volume.specs.Volumes.{Ends}
use Rattle.volume.specs.Formatting.{Formatted}
use Rattle.volume.specs.declared.down.Down.{Down as DownVolume}
use Rattle.volume.specs.declared.up.Up.{Up as UpVolume}
use Rattle.volume.specs.Models.{up_model, down_model, up_over, down_over}
use Rattle.lives.specs.declared.any_volume.AnyVolume.{AnyVolume}
use Rattle.lives.specs.declared.any_volume.AnyVolume.TheVariants.{Down, Up}
use Rattle.lives.specs.declared.call.Call.{Call}
use Rattle.lives.specs.declared.call.Call.TheVariants.{Run, Force, Flush, Trim, Stop, Mount}
use Rattle.lives.specs.declared.answer.Refused.TheVariants.{OutOfTurn}
use Rattle.lives.specs.Answers.{Answer, written_as}
use Rattle.lives.specs.Books.{Event}
use Rattle.lives.specs.Books.Event.{run, force, flush, trim, stop, mount}
use Rattle.lives.specs.Lives.{State, Steps, Life}
use Rattle.lives.specs.Lives.State.{down, up}
use Rattle.lives.specs.Lives.Life.{formatted, then}
use Rattle.lives.specs.Laws.{Law}

-- what a volume in code, down or up, stands for
module _ {K L S : Type 0} where
  abbrev pub state_of : (L → Device) → (S → Store) → (S → ℕ → List ℕ) → AnyVolume K L S → State
  state_of log store plan (Down d) = down (down_model log store plan d)
  state_of log store plan (Up u) = up (up_model log store plan u)

  -- the same by what is told of the log's medium and of the store; and a volume known to be down or up
  abbrev pub state_over : Medium.Ghosts L → PageStore.Ghosts S → AnyVolume K L S → State
  state_over log store v = state_of log.model store.meaning store.plan v

  abbrev pub down_state : Medium.Ghosts L → PageStore.Ghosts S → DownVolume K L S → State
  down_state log store d = down (down_over log store d)

  abbrev pub up_state : Medium.Ghosts L → PageStore.Ghosts S → UpVolume K L S → State
  up_state log store u = up (up_over log store u)

-- a down volume takes a mount alone, an up one all other calls
abbrev pub up_takes : Call → Bool
up_takes (Run body) = true
up_takes Force = true
up_takes (Flush page) = true
up_takes Trim = true
up_takes Stop = true
up_takes Mount = false

abbrev pub down_takes : Call → Bool
down_takes (Run body) = false
down_takes Force = false
down_takes (Flush page) = false
down_takes Trim = false
down_takes Stop = false
down_takes Mount = true

abbrev pub takes : State → Call → Bool
takes (down e) c = down_takes c
takes (up v) c = up_takes c

-- the value of an answer
abbrev pub value_of : Result ℕ Report → ℕ
value_of (Ok n) = n
value_of (Err r) = 0

-- the event that a call with its answer is; the fate is that of a write that died in it, and only a force's matters
abbrev pub event_of : Call → Result ℕ Report → Fate → Event
event_of (Run body) a fate = run body.now a
event_of Force a fate = force a fate
event_of (Flush page) a fate = flush page a
event_of Trim a fate = trim a
event_of Stop a fate = stop (value_of a)
event_of Mount a fate = mount a

abbrev pub reported : Result ℕ Fault → Result ℕ Report
reported (Ok n) = Ok n
reported (Err f) = Err (report f)

-- one call is made of a volume in state s and answered: out of turn where the state does not take it, else as one call of a life
pub data Plays (k : Meaning) : State → Call → Answer → List Event → State → Type 0 where
  out_of_turn : {s : State} {c : Call} → takes s c ≡ false → Plays k s c (Err OutOfTurn) [] s
  in_turn : {s s' : State} {c : Call} (a : Result ℕ Fault) (fate : Fate) → takes s c ≡ true → Steps k s (event_of c (reported a) fate) s'
      → Plays k s c (written_as a) (event_of c (reported a) fate ∷ []) s'

-- From state s these calls were made, in order, and got these answers; these events they are, the newest first, and this is the state then.
pub data Replayed (k : Meaning) (s : State) : List Call → List Answer → List Event → State → Type 0 where
  nothing : Replayed k s [] [] [] s
  more : {cs : List Call} {ans : List Answer} {es new : List Event} {s₁ s' : State} (c : Call) (a : Answer)
      → Replayed k s cs ans es s₁ → Plays k s₁ c a new s' → Replayed k s (cs ++ c ∷ []) (ans ++ a ∷ []) (new ++ es) s'

abbrev pub Replays : Meaning → State → List Call → List Answer → State → Type 0
Replays k s cs ans s' = (es : List Event) × Replayed k s cs ans es s'

-- the law holds at every point of a life
unfoldable pub Everywhere : (k : Meaning) (f : ℕ) {es : List Event} {s : State} → Life k f es s → Type 0
Everywhere k f (formatted e {e' = e'} l x) = Law k f [] (down e')
Everywhere k f (then {es = es} {e = e} {s' = s'} life x) = Law k f (e ∷ es) s' × Everywhere k f life

-- A volume e was formatted with first number f, and then exactly these calls were made and got these answers: that is a life, of which the law
-- holds at every point.
pub record Lived (k : Meaning) (f : ℕ) (e : Ends) (cs : List Call) (ans : List Answer) (s : State) : Type 0 where
  pub formed : Ends
  pub format : Formatted f e None formed
  pub events : List Event
  pub replayed : Replayed k (down formed) cs ans events s
  pub life : Life k f events s
  pub law : Everywhere k f life

-- A replay on a volume e of calls, with places for answers, comes to r: as many calls were made as there are places, the answers stand in
-- theirs, and the other places stay; or the format was refused, and nothing else was done.
abbrev pub Replay : Meaning → ℕ → Ends → List Call → List Answer → Result ℕ Fault → List Answer → State → Type 0
Replay k f e cs places (Ok n) ans s = (n ≡ min (length cs) (length places)) × ((drop n ans ≡ drop n places) × Lived k f e (take n cs) (take n ans) s)
Replay k f e cs places (Err fault) ans s = (ans ≡ places) × ((e' : Ends) × (Formatted f e (Some (report fault)) e' × (s ≡ down e')))
