-- Blanking the log, block by block.
use Rattle.std.proofs.Common.{◌≡◌, ℕ, zero, suc, ◌+◌, ◌-◌, ◌≤◌, true, List, [], ◌∷◌, ◌++◌, map, Some, None, Option, sym, refl, ap, ◌∙◌, subst, arith}
use Rattle.std.proofs.lemmas.List.{append_assoc, append-nil, map-append}
use Rattle.faults.specs.Faults.{Report}
use Rattle.sets.specs.Sets.{rising}
use Rattle.sets.proofs.SetLaws.{rising_none, rising-more}
use Rattle.media.specs.Media.{Device, Wrote, powered}
use Rattle.media.specs.Plans.{Write, Ran, done}
use Rattle.media.proofs.PlanLaws.{ran_append, ran-cut, ran-one}
use Rattle.stores.specs.Images.{blank}
use Rattle.stores.specs.Stores.{Store, Installed, powered as revived}
use Rattle.logblocks.specs.Blocks.{header_of}
use Rattle.volume.specs.Volumes.{Ends}
use Rattle.volume.specs.Formatting.{blanks, all_pages, blank_images, Begun, blanking, installing, heading}

abbrev blank_of : ℕ → Write
blank_of b = record { block = b; bytes = blank }

-- the first n of the writes
abbrev pub blanks_to : ℕ → List Write
blanks_to n = map blank_of (rising (λ _. true) n)

blanks-more : (n : ℕ) → blanks_to (n + 1) ≡ blanks_to n ++ (blank_of n ∷ [])
blanks-more n = ap (map blank_of) (rising-more (λ _. true) n) ∙ map-append blank_of (rising (λ _. true) n) (n ∷ [])

pub blanks-none : (m : Device) → Ran m (blanks_to 0) None m
blanks-none m = subst (λ ws. Ran m ws None m) (sym (ap (map blank_of) (rising_none (λ _. true)))) done

pub blanks-on : (n : ℕ) (m m₁ m' : Device) (o : Option Report) → Ran m (blanks_to n) None m₁ → Wrote m₁ n blank o m' → Ran m (blanks_to (n + 1)) o m'
blanks-on n m m₁ m' o ran (f, w) = subst (λ ws. Ran m ws o m') (sym (blanks-more n)) (ran_append ran refl (ran-one (blank_of n) m₁ m' o f w))

-- those behind the first n
behind : (n k : ℕ) → (ws : List Write) × (blanks_to (n + k) ≡ blanks_to n ++ ws)
behind n zero = ([], ap blanks_to (let z : n + 0 ≡ n = omega arith in z) ∙ sym (append-nil (blanks_to n)))
behind n (suc k) =
    let p = behind n k in
    let z : n + suc k ≡ n + k + 1 = omega arith in
    (p.0 ++ (blank_of (n + k) ∷ []), ap blanks_to z ∙ blanks-more (n + k) ∙ ap (λ ws. ws ++ (blank_of (n + k) ∷ [])) p.1 ∙ append_assoc (blanks_to n) p.0 (blank_of (n + k) ∷ []))

pub blanks-cut : (n : ℕ) (m m' : Device) (r : Report) → n ≤ 129 → Ran m (blanks_to n) (Some r) m' → Ran m blanks (Some r) m'
blanks-cut n m m' r l ran =
    let p = behind n (129 - n) in
    let z : 129 ≡ n + (129 - n) = omega (arith, l) in
    subst (λ ws. Ran m ws (Some r) m') (sym (ap blanks_to z ∙ p.1)) (ran-cut p.0 r ran refl)

-- how a format ends, with the two ends after power-on given by equations
module _ (f : ℕ) (e : Ends) (m₀ m : Device) (s₀ : Store) (plan₀ : ℕ → List ℕ) (logOn : m₀ ≡ powered e.log) (store_on : s₀ ≡ revived e.store) (planOn : plan₀ ≡ e.plan) where
  pub ends-blanking : (r : Report) → Ran m₀ blanks (Some r) m → Begun f e (Some r) (record { log = m; store = s₀; plan = plan₀ })
  ends-blanking r ran =
      subst (λ s. Begun f e (Some r) (record { log = m; store = s; plan = plan₀ })) (sym store_on)
      (subst (λ p. Begun f e (Some r) (record { log = m; store = revived e.store; plan = p })) (sym planOn) (blanking (subst (λ x. Ran x blanks (Some r) m) logOn ran)))

  on_store : (o : Option Report) (s : Store) → Installed s₀ (plan₀ all_pages) all_pages blank_images o s → Installed (revived e.store) (e.plan all_pages) all_pages blank_images o s
  on_store o s was = subst (λ x. Installed x (e.plan all_pages) all_pages blank_images o s) store_on (subst (λ p. Installed s₀ (p all_pages) all_pages blank_images o s) planOn was)

  pub ends-installing : (s : Store) (plan : ℕ → List ℕ) (r : Report) → Ran m₀ blanks None m → Installed s₀ (plan₀ all_pages) all_pages blank_images (Some r) s → Begun f e (Some r) (record { log = m; store = s; plan = plan })
  ends-installing s plan r ran was = installing (subst (λ x. Ran x blanks None m) logOn ran) (on_store (Some r) s was)

  pub ends-heading : (s : Store) (plan : ℕ → List ℕ) (o : Option Report) (block : List ℕ) (m' : Device) → block ≡ header_of f → Ran m₀ blanks None m → Installed s₀ (plan₀ all_pages) all_pages blank_images None s
      → Wrote m 0 block o m' → Begun f e o (record { log = m'; store = s; plan = plan })
  ends-heading s plan o block m' b ran was wrote = heading (subst (λ x. Ran x blanks None m) logOn ran) (on_store None s was) (subst (λ x. Wrote m 0 x o m') b wrote)
