-- What the calls' contracts say, as calls of a life.
use Rattle.std.proofs.Common.{◌≡◌, ℕ, ◌-◌, List, length, IfOk, Ok, Err, Result, Option, Some, None, MatchOption, sym, refl, ap, ◌∙◌, subst, ap₂}
use Rattle.sets.specs.Sets.{size}
use Rattle.faults.specs.declared.fault.Fault.{Fault}
use Rattle.faults.specs.Faults.{refusal}
use Rattle.media.specs.declared.fate.Fate.{Fate}
use Rattle.media.specs.Media.{Device}
use Rattle.stores.specs.Stores.{Store}
use Rattle.kinds.specs.Kinds.{Meaning}
use Rattle.volume.specs.Statuses.{halted_by}
use Rattle.volume.specs.Volumes.{Ends, Volume, run_fault, after_run}
use Rattle.volume.specs.Forcing.{Forced, Trimmed}
use Rattle.volume.specs.Flushing.{Flushed}
use Rattle.volume.specs.Mounting.{mounted}
use Rattle.volume.specs.Recovering.{report_of}
use Rattle.lives.specs.Books.Event.{run, force, flush, trim, stop, mount}
use Rattle.lives.specs.Lives.{answered, ends_of, fate_by, Steps}
use Rattle.lives.specs.Lives.State.{down, up}
use Rattle.lives.specs.Lives.Steps.{runs, forces, flushes, trims, stops, mounts}
use Rattle.lives.specs.Replays.{reported}

-- an answer is its value or its refusal
pub answer-is : (r : Result ℕ Fault) (n : ℕ) → IfOk r (λ m. m ≡ n) → answered n (refusal r) ≡ reported r
answer-is (Ok m) n e = ap Ok (sym e)
answer-is (Err f) n e = refl

pub run-steps : (k : Meaning) (v v' : Volume) (body : List ℕ) (r : Result ℕ Fault) → refusal r ≡ run_fault k v body → IfOk r (λ n. n ≡ v.next) → v' ≡ after_run k v body → Steps k (up v) (run body (reported r)) (up v')
run-steps k v v' body r fault number after =
    subst (λ w. Steps k (up v) (run body (reported r)) (up w)) (sym after)
    (subst (λ a. Steps k (up v) (run body a) (up (after_run k v body))) (ap (answered v.next) (sym fault) ∙ answer-is r v.next number) (runs v body))

pub force-steps : (k : Meaning) (v v' : Volume) (r : Result ℕ Fault) → Forced v (refusal r) v' → IfOk r (λ n. n ≡ v.next - 1) → (fate : Fate) × Steps k (up v) (force (reported r) fate) (up v')
force-steps k v v' r forced number =
    let fate = fate_by v v' (refusal r) (halted_by v.status) forced in
    (fate, subst (λ a. Steps k (up v) (force a fate) (up v')) (answer-is r (v.next - 1) number) (forces (refusal r) forced))

pub flush-steps : (k : Meaning) (v v' : Volume) (page group : ℕ) (r : Result ℕ Fault) → Flushed v page group (refusal r) v' → IfOk r (λ n. n ≡ size group) → Steps k (up v) (flush page (reported r)) (up v')
flush-steps k v v' page group r flushed number = subst (λ a. Steps k (up v) (flush page a) (up v')) (answer-is r (size group) number) (flushes group (refusal r) flushed)

pub trim-steps : (k : Meaning) (v v' : Volume) (r : Result ℕ Fault) → Trimmed v (refusal r) v' → IfOk r (λ n. n ≡ v'.first) → Steps k (up v) (trim (reported r)) (up v')
trim-steps k v v' r trimmed number = subst (λ a. Steps k (up v) (trim a) (up v')) (answer-is r v'.first number) (trims (refusal r) trimmed)

pub stop-steps : (k : Meaning) (v : Volume) (e : Ends) (n : ℕ) → n ≡ length v.waiting → e ≡ ends_of v → Steps k (up v) (stop n) (down e)
stop-steps k v e n dropped same = subst (λ x. Steps k (up v) (stop n) (down x)) (sym same) (subst (λ m. Steps k (up v) (stop m) (down (ends_of v))) (sym dropped) (stops v))

pub mount-steps : (k : Meaning) (e : Ends) (v : Volume) (r : Result ℕ Fault) → v ≡ mounted k e → IfOk r (λ n. n ≡ length v.dirty) → refusal r ≡ halted_by v.status → Steps k (down e) (mount (reported r)) (up v)
mount-steps k e v r same count fault =
    subst (λ w. Steps k (down e) (mount (reported r)) (up w)) (sym same)
    (subst (λ a. Steps k (down e) (mount a) (up (mounted k e)))
    (sym (ap (λ w. answered (length w.dirty) (halted_by w.status)) same) ∙ ap (answered (length v.dirty)) (sym fault) ∙ answer-is r (length v.dirty) count)
    (mounts e))

-- the same for an answer by the fault that the volume shows
pub mount-steps-by : (k : Meaning) (e : Ends) (v : Volume) (f : Option Fault) (n : ℕ) (r : Result ℕ Fault) → v ≡ mounted k e → n ≡ length v.dirty → report_of f ≡ halted_by v.status
    → MatchOption f (r ≡ Ok n) (λ x. r ≡ Err x) → Steps k (down e) (mount (reported r)) (up v)
mount-steps-by k e v None n r same count fault is = mount-steps k e v r same (subst (λ a. IfOk a (λ m. m ≡ length v.dirty)) (sym is) count) (ap refusal is ∙ fault)
mount-steps-by k e v (Some x) n r same count fault is = mount-steps k e v r same (subst (λ a. IfOk a (λ m. m ≡ length v.dirty)) (sym is) tt) (ap refusal is ∙ fault)

-- ends in code that are equal are the same ends
pub same_ends : {L S : Type 0} (model : L → Device) (meaning : S → Store) (plan : S → ℕ → List ℕ) {l l' : L} {s s' : S} → l ≡ l' → s ≡ s'
    → ◌≡◌ {A = Ends} (record { log = model l; store = meaning s; plan = plan s }) (record { log = model l'; store = meaning s'; plan = plan s' })
same_ends model meaning plan a b = ap₂ (λ x y. record { log = model x; store = meaning y; plan = plan y }) a b
