-- A trim whose write of block 0 is refused, and the row of all images.
use Rattle.std.proofs.Common.{◌≡◌, ℕ, cond, eqb, List, Some, None, Option, sym, ap, ◌∙◌, subst, MatchOption, Ok}
use Rattle.std.proofs.lemmas.Bool.{ne_eqb}
use Rattle.faults.specs.Faults.{Report}
use Rattle.media.specs.Media.{Device, Wrote}
use Rattle.logblocks.specs.Blocks.{header_of}
use Rattle.volume.specs.Statuses.{halted_by}
use Rattle.volume.specs.Volumes.{Volume, noted}
use Rattle.volume.specs.Forcing.{ByStatus, Trimmed, TrimmedWell, trimmed_to}

-- a call on a well volume
pub well-call : (v v' : Volume) (o : Option Report) (P : Type 0) → v.status ≡ Ok tt → P → ByStatus v o v' P
well-call v v' o P w x = subst (λ s. MatchOption (halted_by s) P (λ r. (o ≡ Some r) × (v' ≡ v))) (sym w) x

-- the volume with another log
abbrev pub with_medium : Device → Volume → Volume
with_medium m v = record { log = m; store = v.store; plan = v.plan; images = v.images; waiting = v.waiting; dirty = v.dirty; first = v.first; next = v.next; status = v.status }

pub trim-refused : (v v' : Volume) (o : Option Report) (r : Report) (first : ℕ) (block : List ℕ) (m : Device) → v.status ≡ Ok tt → first ≡ trimmed_to v → (first ≡ v.first → ⊥) → block ≡ header_of first
    → Wrote v.log 0 block o m → Some r ≡ o → v' ≡ noted o (with_medium m v) → Trimmed v (Some r) v'
trim-refused v v' o r first block m w lowest other b wrote e after =
    well-call v v' (Some r) (cond (eqb (trimmed_to v) v.first) ((Some r ≡ None) × (v' ≡ v)) (TrimmedWell v (Some r) v')) w
    (subst (λ t. cond t ((Some r ≡ None) × (v' ≡ v)) (TrimmedWell v (Some r) v')) (sym (ne_eqb (trimmed_to v) v.first (λ x. other (lowest ∙ x))))
    (record {
      log = m;
      wrote = subst (λ x. Wrote v.log 0 x (Some r) m) (b ∙ ap header_of lowest) (subst (λ x. Wrote v.log 0 block x m) (sym e) wrote);
      after = after ∙ ap (λ x. noted x (with_medium m v)) (sym e);
    }))
