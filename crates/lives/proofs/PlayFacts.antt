-- Calls played one after another are a life.
use Rattle.std.proofs.Common.{◌≡◌, ℕ, ◌+◌, ◌<◌, ◌≤◌, true, false, List, [], ◌∷◌, ◌++◌, length, get_or, take, drop, set, None, Err, Result, sym, refl, ap, ◌∙◌, subst, add-one, take-suc, take-suc-set, arith}
use Rattle.std.proofs.lemmas.List.{drop-set-lt}
use Rattle.std.proofs.lemmas.Grind.{drop_more_same}
use Rattle.faults.specs.declared.fault.Fault.{Fault}
use Rattle.media.specs.declared.fate.Fate.{Fate}
use Rattle.kinds.specs.Kinds.{Meaning, Lawful}
use Rattle.volume.specs.Volumes.{Ends}
use Rattle.volume.specs.LogReading.{last_number}
use Rattle.volume.specs.Formatting.{Formatted}
use Rattle.lives.specs.declared.call.Call.{Call}
use Rattle.lives.specs.declared.call.Call.TheVariants.{Run, Force, Flush, Trim, Stop, Mount}
use Rattle.lives.specs.declared.answer.Refused.TheVariants.{OutOfTurn}
use Rattle.lives.specs.Answers.{Answer, written_as}
use Rattle.lives.specs.Books.{Event}
use Rattle.lives.specs.Lives.{State, Steps, Life}
use Rattle.lives.specs.Lives.State.{down}
use Rattle.lives.specs.Lives.Life.{formatted, then}
use Rattle.lives.specs.Replays.{takes, down_takes, event_of, reported, Plays, Replayed, Replays, Everywhere, Lived}
use Rattle.lives.specs.Replays.Plays.{out_of_turn, in_turn}
use Rattle.lives.specs.Replays.Replayed.{nothing, more}
use Rattle.lives.proofs.HoldsFacts.{law-holds}

-- a call that is taken
pub taken-call : (k : Meaning) (s s' : State) (c c' : Call) (r : Result ℕ Fault) (a : Answer) (fate : Fate) → c ≡ c' → takes s c' ≡ true → a ≡ written_as r → Steps k s (event_of c' (reported r) fate) s'
    → (new : List Event) × Plays k s c a new s'
taken-call k s s' c c' r a fate is takes-it w step =
    (event_of c' (reported r) fate ∷ [], subst (λ x. Plays k s x a (event_of c' (reported r) fate ∷ []) s') (sym is) (subst (λ x. Plays k s c' x (event_of c' (reported r) fate ∷ []) s') (sym w) (in_turn r fate takes-it step)))

-- a call that is not
pub idle-call : (k : Meaning) (s : State) (c c' : Call) → c ≡ c' → takes s c' ≡ false → (new : List Event) × Plays k s c (Err OutOfTurn) new s
idle-call k s c c' is not_taken = ([], subst (λ x. Plays k s x (Err OutOfTurn) [] s) (sym is) (out_of_turn not_taken))

pub down-idle : (c : Call) → (c ≡ Mount → ⊥) → down_takes c ≡ false
down-idle (Run body) n = refl
down-idle Force n = refl
down-idle (Flush page) n = refl
down-idle Trim n = refl
down-idle Stop n = refl
down-idle Mount n = absurd (n refl)

-- ---- many calls

pub replays-none : (k : Meaning) (s : State) (cs : List Call) (ans : List Answer) → Replays k s (take 0 cs) (take 0 ans) s
replays-none k s cs ans = ([], nothing)

pub replays-more : (k : Meaning) (s s₁ s' : State) (cs : List Call) (ans : List Answer) (i : ℕ) (c : Call) (a : Answer) → i < length cs → i < length ans → get_or cs i c ≡ c
    → Replays k s (take i cs) (take i ans) s₁ → (new : List Event) × Plays k s₁ c a new s' → Replays k s (take (i + 1) cs) (take (i + 1) (set ans i a)) s'
replays-more k s s₁ s' cs ans i c a lc la is (es, before) (new, plays) = (new ++ es, subst (λ x. Replayed k s x (take (i + 1) (set ans i a)) (new ++ es) s') (sym calls) (subst (λ x. Replayed k s (take i cs ++ c ∷ []) x (new ++ es) s') (sym answers) (more c a before plays)))
  where
    calls : take (i + 1) cs ≡ take i cs ++ c ∷ []
    calls = ap (λ j. take j cs) (add-one i) ∙ take-suc cs i c lc ∙ ap (λ x. take i cs ++ x ∷ []) is

    answers : take (i + 1) (set ans i a) ≡ take i ans ++ a ∷ []
    answers = ap (λ j. take j (set ans i a)) (add-one i) ∙ take-suc-set ans i a la

-- the places behind the i-th stay as they were
pub rest-still : (ans before : List Answer) (i : ℕ) (a : Answer) → drop i ans ≡ drop i before → drop (i + 1) (set ans i a) ≡ drop (i + 1) before
rest-still ans before i a same = drop-set-lt (i + 1) ans i a (omega arith) ∙ drop_more_same ans before i same

-- ---- the life

goes-life : {k : Meaning} {f : ℕ} {s₁ s' : State} {c : Call} {a : Answer} {es new : List Event} → Life k f es s₁ → Plays k s₁ c a new s' → Life k f (new ++ es) s'
goes-life life (out_of_turn t) = life
goes-life life (in_turn a fate t step) = then life step

replayed-life : {k : Meaning} {f : ℕ} {s s' : State} {cs : List Call} {ans : List Answer} {es : List Event} → Life k f [] s → Replayed k s cs ans es s' → Life k f es s'
replayed-life life nothing = life
replayed-life life (more c a before plays) = goes-life (replayed-life life before) plays

everywhere : (k : Meaning) → Lawful k → (f : ℕ) {es : List Event} {s : State} (life : Life k f es s) → Everywhere k f life
unfolding Everywhere
everywhere k law f (formatted e {e' = e'} l x) = law-holds k law f [] (down e') (formatted e l x)
everywhere k law f (then {es = es} {e = e} {s' = s'} life x) = (law-holds k law f (e ∷ es) s' (then life x), everywhere k law f life)

pub lived : (k : Meaning) → Lawful k → (f : ℕ) (e e' : Ends) (cs : List Call) (ans : List Answer) (s : State) → f ≤ last_number → Formatted f e None e' → Replays k (down e') cs ans s → Lived k f e cs ans s
lived k law f e e' cs ans s l format (es, replayed) =
    let life = replayed-life (formatted e l format) replayed in
    record { formed = e'; format = format; events = es; replayed = replayed; life = life; law = everywhere k law f life }
