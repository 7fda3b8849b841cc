-- An install of a group, passed or refused.
use Rattle.std.proofs.Common.{◌≡◌, ℕ, ◌<◌, cond, leb, List, Some, None, Option, sym, refl, ap, ◌∙◌, subst, MatchOption, Ok}
use Rattle.std.proofs.lemmas.Bool.{lt-leb}
use Rattle.faults.specs.declared.fault.Fault.TheVariants.{NoSuchPage}
use Rattle.faults.specs.Faults.{Report, report}
use Rattle.stores.specs.Stores.{Store, Installed}
use Rattle.graph.specs.declared.op.Op.{Op}
use Rattle.tables.specs.DirtyOps.{kept}
use Rattle.volume.specs.Working.{in_row}
use Rattle.volume.specs.Volumes.{Volume, Told, noted}
use Rattle.volume.specs.Flushing.{flush_check, GroupInstalled, FlushedWell, Flushed}
use Rattle.volume.proofs.TrimLaws.{well-call}

-- the volume with another store, and with other dirty operations
abbrev pub with_pages : Store → (ℕ → List ℕ) → Volume → Volume
with_pages s plan v = record { log = v.log; store = s; plan = plan; images = v.images; waiting = v.waiting; dirty = v.dirty; first = v.first; next = v.next; status = v.status }

abbrev pub with_dirty : List Op → Volume → Volume
with_dirty ops v = record { log = v.log; store = v.store; plan = v.plan; images = v.images; waiting = v.waiting; dirty = ops; first = v.first; next = v.next; status = v.status }

module _ (v v₁ : Volume) (o : Option Report) (group : ℕ) (bytes : List ℕ) (s : Store) (plan : ℕ → List ℕ) (row : in_row v.images ≡ bytes)
    (done : Installed v.store (v.plan group) group bytes o s) (after : v₁ ≡ noted o (with_pages s plan v)) where
  pub group-refused : (r : Report) → Some r ≡ o → GroupInstalled v group (Some r) v₁
  group-refused r e = record {
    store = s;
    plan = plan;
    installed = subst (λ x. Installed v.store (v.plan group) group x (Some r) s) (sym row) (subst (λ x. Installed v.store (v.plan group) group bytes x s) (sym e) done);
    after = after ∙ ap (λ x. noted x (with_pages s plan v)) (sym e);
  }

  pub group-passed : (ops : List Op) → None ≡ o → ops ≡ kept group v₁.dirty → GroupInstalled v group None (with_dirty ops v₁)
  group-passed ops e less = record {
    store = s;
    plan = plan;
    installed = subst (λ x. Installed v.store (v.plan group) group x None s) (sym row) (subst (λ x. Installed v.store (v.plan group) group bytes x s) (sym e) done);
    after = ap (λ x. with_dirty x v₁) less ∙ ap (λ x. with_dirty (kept group x.dirty) x) (after ∙ ap (λ x. noted x (with_pages s plan v)) (sym e));
  }

-- a flush that a check turns down, one that comes to its install, and one of a page that there is in a well volume
module _ (v v' : Volume) (p group before : ℕ) where
  pub flush-refused : (r : Report) → Told v.dirty p (group, before) → Some r ≡ flush_check v p group before → FlushedWell v p group (Some r) v
  flush-refused r told e = record {
    before = before;
    told = told;
    call = subst (λ x. MatchOption x (GroupInstalled v group (Some r) v) (λ f. (Some r ≡ Some f) × (v ≡ v))) e (refl, refl);
  }

  pub flush-done : (o : Option Report) → Told v.dirty p (group, before) → None ≡ flush_check v p group before → GroupInstalled v group o v' → FlushedWell v p group o v'
  flush-done o told e done = record {
    before = before;
    told = told;
    call = subst (λ x. MatchOption x (GroupInstalled v group o v') (λ f. (o ≡ Some f) × (v' ≡ v))) e done;
  }

pub flush-well : (v v' : Volume) (p group : ℕ) (o : Option Report) → v.status ≡ Ok tt → p < 64 → FlushedWell v p group o v' → Flushed v p group o v'
flush-well v v' p group o w l x =
    well-call v v' o (cond (leb 64 p) ((o ≡ Some (report (NoSuchPage p))) × (v' ≡ v)) (FlushedWell v p group o v')) w
    (subst (λ t. cond t ((o ≡ Some (report (NoSuchPage p))) × (v' ≡ v)) (FlushedWell v p group o v')) (sym (lt-leb 64 p l)) x)
