-- What an install on a live store answers and leaves.
use Rattle.std.proofs.Common.{◌≡◌, ℕ, List, length, Option, refl, ◌∙◌}
use Rattle.std.proofs.lemmas.Bool.{eq-eqb, ne_eqb}
use Rattle.faults.specs.Faults.{Report}
use Rattle.stores.specs.Stores.{Store, Ending, Installed, end_fault, end_store, install_fault, after_install}
use Rattle.stores.specs.Stores.State.{Live}

pub install_live : (s s' : Store) (plan : List ℕ) (set : ℕ) (images : List ℕ) (o : Option Report) → s.state ≡ Live → length images ≡ 16384 → (set ≡ 0 → ⊥)
    → (x : Installed s plan set images o s') → (o ≡ end_fault x.0 plan) × (s' ≡ end_store x.0 set images s)
install_live s s' plan set images o live long some x =
    (x.1.answer ∙ fault x.0, x.1.after ∙ left x.0)
  where
    fault : (e : Ending) → install_fault e s plan set images ≡ end_fault e plan
    fault e = rw (eq-eqb (length images) 16384 long, live, ne_eqb set 0 some) refl

    left : (e : Ending) → after_install e s set images ≡ end_store e set images s
    left e = rw (eq-eqb (length images) 16384 long, live, ne_eqb set 0 some) refl
