-- Every call keeps book and volume together, and so does every life.
use Rattle.std.proofs.Common.{◌≡◌, ℕ, ◌-◌, ◌≤◌, true, false, eqb, List, ◌∷◌, length, Ok, Err, sym, refl, arith}
use Rattle.std.proofs.lemmas.List.{length-take-le}
use Rattle.std.proofs.lemmas.Bool.{both_ways}
use Rattle.sets.proofs.SetLaws.{first-le}
use Rattle.faults.specs.Faults.{Report}
use Rattle.media.specs.declared.fate.Fate.TheVariants.{Lives, DiesOld, DiesNew}
use Rattle.kinds.specs.Kinds.{Meaning, Lawful}
use Rattle.volume.specs.LogReading.{place_of}
use Rattle.volume.specs.Volumes.{Ends}
use Rattle.volume.specs.Surviving.{MountRecovers}
use Rattle.lives.specs.Books.{Event, Book, next_logged, dying_record, fed, book_of, quiet}
use Rattle.lives.specs.Books.Event.{run, force, flush, trim, stop, mount}
use Rattle.lives.specs.Lives.{State, Steps, Life}
use Rattle.lives.specs.Lives.Steps.{runs, forces, flushes, trims, stops, mounts}
use Rattle.lives.specs.Lives.Life.{formatted, then}
use Rattle.lives.proofs.Keeping.{Keeps, Booked}
use Rattle.lives.proofs.FormatLaws.{format-keeps}
use Rattle.lives.proofs.RunFacts.{AllWellFormed, run-keeps_all}
use Rattle.lives.proofs.ForceFacts.{force-keeps_all}
use Rattle.lives.proofs.FlushFacts.{flush-keeps_all}
use Rattle.lives.proofs.TrimFacts.{trim-keeps_all}
use Rattle.lives.proofs.MountFacts.{mount-keeps_all}

module _ (k : Meaning) (law : Lawful k) (wf : AllWellFormed k) (recovers : (e : Ends) → MountRecovers k e) where
  pub step_keeps : {s s' : State} {e : Event} → Steps k s e s' → (b : Book) → Keeps k b s → Keeps k (fed b e) s'
  step_keeps (runs v body) b keeps = run-keeps_all k law wf b v body keeps
  step_keeps (forces {v} {v'} o c) b keeps = force-keeps_all k law b v v' o c keeps
  step_keeps (flushes {v} {v'} {page} group o c) b keeps = flush-keeps_all k b v v' page group o c keeps
  step_keeps (trims {v} {v'} o c) b keeps = trim-keeps_all k b v v' o c keeps
  step_keeps (stops v) b keeps = record { booked = keeps.booked; I = keeps.I; t = keeps.t; kept = keeps.kept; upheld = tt }
  step_keeps (mounts e) b keeps = mount-keeps_all k law b e (recovers e) keeps

  pub life-keeps : (f : ℕ) {es : List Event} {s : State} → Life k f es s → Keeps k (book_of f es) s
  life-keeps f (formatted e {e'} few form) = format-keeps k f e e' few form
  life-keeps f (then {es} life step) = step_keeps step (book_of f es) (life-keeps f life)

  -- ---- where it is quiet, all is logged

  dying-from : (b : Book) (r : Report) → next_logged b ≤ dying_record b r
  dying-from b r = (first-le (λ n. eqb (place_of n) r.place) (next_logged b) (length b.bodies - b.logged)).0

  quiet_step : (b : Book) (e : Event) (es : List Event) → Booked k b → Booked k (fed b e) → (quiet es ≡ true → b.logged ≡ length b.bodies) → quiet (e ∷ es) ≡ true
      → (fed b e).logged ≡ length (fed b e).bodies
  quiet_step b (run body (Ok n)) es was is ih q = absurd (both_ways false refl q)
  quiet_step b (run body (Err r)) es was is ih q = ih q
  quiet_step b (force (Ok n) fate) es was is ih q = refl
  quiet_step b (force (Err r) Lives) es was is ih q = ih q
  quiet_step b (force (Err r) DiesOld) es was is ih q = let s = is.survives in let o = dying-from b r in omega (arith, ih q, o)
  quiet_step b (force (Err r) DiesNew) es was is ih q = let s = is.survives in let o = dying-from b r in omega (arith, ih q, o)
  quiet_step b (flush page answer) es was is ih q = ih q
  quiet_step b (trim answer) es was is ih q = ih q
  quiet_step b (stop answer) es was is ih q = ih q
  quiet_step b (mount (Ok n)) es was is ih q = sym (length-take-le b.logged b.bodies was.survives)
  quiet_step b (mount (Err r)) es was is ih q = ih q

  pub quiet-logged : (f : ℕ) {es : List Event} {s : State} → Life k f es s → quiet es ≡ true → (book_of f es).logged ≡ length (book_of f es).bodies
  quiet-logged f (formatted e few form) q = refl
  quiet-logged f (then {es} {e} life step) q =
      quiet_step (book_of f es) e es (life-keeps f life).booked (life-keeps f (then life step)).booked (quiet-logged f life) q
