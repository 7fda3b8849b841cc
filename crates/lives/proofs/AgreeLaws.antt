-- Histories that have the same operations up to a number.
use Rattle.std.proofs.Common.{◌≡◌, ℕ, zero, suc, ◌<◌, ◌≤◌, Bool, true, false, cond, ◌&&◌, ◌||◌, leb, List, get_or, sym, refl, ap, ◌∙◌, subst, ap₂, arith}
use mathlib.Core.Path.{fun_ext}
use Rattle.std.proofs.ByRecursion.{All-from_get_or}
use Rattle.std.proofs.lemmas.Bool.{leb-true}
use Rattle.redo.specs.Histories.{Page, Operation, History, reads, writes, contents_of, renewed, run, after, image, WellFormed, Ran}
use Rattle.redo.specs.Prefixes.{Installed}
use Rattle.redo.proofs.InstallLaws.{uninstalled-parts}
use Rattle.graph.specs.declared.op.Op.{Op}
use Rattle.graph.specs.Ops.{nothing}
use Rattle.graph.specs.Listing.{ScopeOf, Lists}
use Rattle.graph.proofs.ListLaws.{listed-dirty, scope-at}

module _ (start : ℕ → Page) (first : ℕ) (x y : ℕ → Operation) (n : ℕ) (same : (m : ℕ) → first ≤ m → m < n → x m ≡ y m) where
  abbrev X : History
  X = record { start = start; first = first; operation = x }

  abbrev Y : History
  Y = record { start = start; first = first; operation = y }

  same_writes : (m p : ℕ) → m < n → writes X m p ≡ writes Y m p
  same_writes m p l = go (leb first m) refl
    where
      go : (b : Bool) → leb first m ≡ b → (b && (x m).writes p) ≡ (b && (y m).writes p)
      go true e = ap (λ (o : Operation). o.writes p) (same m (leb-true first m e) l)
      go false e = refl

  same_reads : (m p : ℕ) → m < n → reads X m p ≡ reads Y m p
  same_reads m p l = go (leb first m) refl
    where
      go : (b : Bool) → leb first m ≡ b → (b && (x m).reads p) ≡ (b && (y m).reads p)
      go true e = ap (λ (o : Operation). o.reads p) (same m (leb-true first m e) l)
      go false e = refl

  same-run : (m : ℕ) (w : ℕ → Page) → m < n → run X m w ≡ run Y m w
  same-run m w l = fun_ext (λ p. go p (leb first m) refl)
    where
      go : (p : ℕ) (b : Bool) → leb first m ≡ b
          → cond (b && (x m).writes p) (renewed ((x m).effect (contents_of w)) m p (w p)) (w p) ≡ cond (b && (y m).writes p) (renewed ((y m).effect (contents_of w)) m p (w p)) (w p)
      go p true e = ap (λ (o : Operation). cond (o.writes p) (renewed (o.effect (contents_of w)) m p (w p)) (w p)) (same m (leb-true first m e) l)
      go p false e = refl

  pub same_after : (m : ℕ) → m ≤ n → after X m ≡ after Y m
  unfolding after
  same_after zero l = refl
  same_after (suc m) l = same-run m (after X m) (omega arith) ∙ ap (run Y m) (same_after m (omega arith))

  pub same-image : (I : ℕ → Bool) (m p : ℕ) → m ≤ n → image X I m p ≡ image Y I m p
  unfolding image
  same-image I zero p l = refl
  same-image I (suc m) p l =
      ap₂ (λ (b : Bool) (z : Page). cond (I m && b) (after X (suc m) p) z) (same_writes m p (omega arith)) (same-image I m p (omega arith))
      ∙ ap (λ (w : ℕ → Page). cond (I m && writes Y m p) (w p) (image Y I m p)) (same_after (suc m) l)

  pub same-ran : Ran X n → Ran Y n
  same-ran ran = record {
    starts_below = ran.starts_below;
    well_formed = λ m g l. subst WellFormed (same m g l) (ran.well_formed m g l);
    accepted = λ m g l. let a = ran.accepted m g l in
        (a.0, sym (ap₂ (λ (o : Operation) (w : ℕ → Page). o.effect (contents_of w)) (same m g l) (same_after m (omega arith))) ∙ a.1);
  }

  pub same-installed : (I : ℕ → Bool) (w : ℕ → Page) → Installed X I n w → Installed Y I n w
  same-installed I w kept = record {
    were_run = kept.were_run;
    is_prefix = λ O P p a b i wr t. kept.is_prefix O P p a b i (same_writes P p b ∙ wr) (ap₂ ◌||◌ (same_reads O p (omega arith)) (same_writes O p (omega arith)) ∙ t);
    images = λ p. kept.images p ∙ same-image I n p (omega arith);
  }

  pub same_lists : (ops : List Op) (I : ℕ → Bool) → Lists ops X I n → Lists ops Y I n
  same_lists ops I lists = record {
    numbers = lists.numbers;
    scopes = All-from_get_or (ScopeOf Y) ops nothing (λ i l.
        let sc = scope-at ops X I n lists i l in
        let below = (uninstalled-parts X I n (get_or ops i nothing).number (listed-dirty ops X I n lists i l)).1 in
        (λ p. sc.0 p ∙ same_reads (get_or ops i nothing).number p below, λ p. sc.1 p ∙ same_writes (get_or ops i nothing).number p below));
  }
