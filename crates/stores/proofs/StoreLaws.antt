-- A run of a plan that installs a set is an install.
use Rattle.std.proofs.Common.{◌≡◌, ℕ, ◌^◌, ◌<◌, ◌≤◌, Bool, true, false, cond, leb, ◌⊎◌, List, [], ◌∷◌, ◌++◌, map, length, get_or, Some, None, Option, sym, refl, ap, ◌∙◌, subst, inl, inr, arith}
use lib.Bits.{bit_xor}
use Rattle.std.proofs.lemmas.List.{length-map, length-append}
use Rattle.std.proofs.lemmas.Bool.Decides.{nat_tests}
use Rattle.std.proofs.lemmas.Bool.{eq-eqb, ne_eqb, le-leb, cond-true}
use Rattle.faults.specs.declared.fault.Fault.TheVariants.{PowerLost, TooShort}
use Rattle.faults.specs.Faults.{Report, report}
use Rattle.media.specs.Media.{Device, Whole, block_count, check}
use Rattle.media.specs.Plans.{Write, Ran}
use Rattle.media.specs.Plans.Ran.{done}
use Rattle.media.proofs.PlanLaws.{throughout-ran, ran-passed, ran-failed, ran-count, ran-lives}
use Rattle.stores.specs.Images.{blank, pictured}
use Rattle.stores.specs.Layout.{set_in, page_in}
use Rattle.stores.specs.Stores.{install_check, Carried, State, Live, Dead, Short, Store, store_on, Ending, Passes, FailsOld, FailsNew, Possible, installed, InstalledBy, Installed, end_fault, end_store, is_short}
use Rattle.stores.specs.Plans.{image_writes, set_write, every_page, settle_writes, journal_writes, shadow_writes, journal_plan, shadow_plan, blocks_in}
use Rattle.stores.proofs.PlanLaws.{Installs, journal_some, journal_installs, journal_plan_lem, shadow_some, shadow_installs, shadow_plan_lem}

-- ---- the store on a medium

abbrev long_enough : Device → Store
long_enough m = record { image = page_in m.blocks; state = cond m.live Live Dead }

pub store_long : (m : Device) → 129 ≤ block_count m → store_on m ≡ long_enough m
store_long m h = cond-true (leb 129 (block_count m)) (long_enough m) (record { image = λ _. blank; state = Short }) (le-leb 129 (block_count m) h)

abbrev with_state : (ℕ → List ℕ) → State → Store
with_state g x = record { image = g; state = x }

at-state : (m : Device) (l : Bool) → 129 ≤ block_count m → m.live ≡ l → store_on m ≡ with_state (page_in m.blocks) (cond l Live Dead)
at-state m l h e = store_long m h ∙ ap (λ t. with_state (page_in m.blocks) (cond t Live Dead)) e

-- ---- an install on it

module _ (set' : ℕ) (images : List ℕ) (long : length images ≡ 16384) (some : set' ≡ 0 → ⊥) (plan : List ℕ) (g : ℕ → List ℕ) where
  -- a live store begins it, and it ends in one of three ways
  begun : (e : Ending) (o : Option Report) (s' : Store) → Possible e plan → o ≡ end_fault e plan → s' ≡ end_store e set' images (with_state g Live)
      → InstalledBy e (with_state g Live) plan set' images o s'
  begun e o s' p a f = record {
    possible = p;
    answer = a ∙ sym (rw (eq-eqb (length images) 16384 long, ne_eqb set' 0 some) refl);
    after = f ∙ sym (rw (eq-eqb (length images) 16384 long, ne_eqb set' 0 some) refl);
  }

  -- a dead one refuses it at the first block, and stays as it is
  dead-refuses : (o : Option Report) (s' : Store) → 0 < length plan → o ≡ Some (report (PowerLost (get_or plan 0 0))) → s' ≡ with_state g Dead
      → InstalledBy (FailsOld 0) (with_state g Dead) plan set' images o s'
  dead-refuses o s' p a f = record {
    possible = p;
    answer = a ∙ sym (rw (eq-eqb (length images) 16384 long, ne_eqb set' 0 some) refl);
    after = f ∙ sym (rw (eq-eqb (length images) 16384 long, ne_eqb set' 0 some) refl);
  }

-- the run of a plan that installs a set
module _ (m m' : Device) (room : 129 ≤ block_count m) (set' : ℕ) (images : List ℕ) (long : length images ≡ 16384) (some : set' ≡ 0 → ⊥)
    (ws : List Write) (written : 0 < length ws) (plan : Installs m.blocks ws (installed set' images (page_in m.blocks))) where
  blocks : List ℕ
  blocks = map (λ w. w.block) ws

  new : ℕ → List ℕ
  new = installed set' images (page_in m.blocks)

  room' : {o : Option Report} → Ran m ws o m' → 129 ≤ block_count m'
  room' r = omega (arith, ran-count r)

  listed : length blocks ≡ length ws
  unfolding blocks
  listed = length-map ws (λ w. w.block)

  passes : Ran m ws None m' → Installed (store_on m) blocks set' images None (store_on m')
  unfolding new
  passes r =
      let l = ran-lives (block_count m) r refl refl plan.fits written in
      let p = ran-passed (block_count m) r refl refl plan.fits in (
        Passes,
        subst (λ s. InstalledBy Passes s blocks set' images None (store_on m')) (sym (at-state m true room l))
            (begun set' images long some blocks (page_in m.blocks) Passes None (store_on m') tt refl
            (at-state m' true (room' r) (p.1 ∙ l) ∙ ap (λ g. with_state g Live) (ap page_in p.0 ∙ plan.ends))),
      )

  fails : (q : Report) → Ran m ws (Some q) m' → Installed (store_on m) blocks set' images (Some q) (store_on m')
  unfolding blocks new
  fails q r = go m.live refl
    where
      cut : (i : ℕ) × (i < length ws) × (q ≡ report (PowerLost (get_or (map (λ w. w.block) ws) i 0))) × (m'.live ≡ false) × (m.live ≡ false → (i ≡ 0) × (m'.blocks ≡ m.blocks))
      cut = ran-failed (block_count m) r q refl refl plan.fits

      dead' : store_on m' ≡ with_state (page_in m'.blocks) Dead
      dead' = at-state m' false (room' r) cut.3

      within : cut.0 < length blocks
      within = omega (arith, cut.1, listed)

      sees : (page_in m'.blocks ≡ page_in m.blocks) ⊎ (page_in m'.blocks ≡ new)
      sees = throughout-ran (λ x. (page_in x ≡ page_in m.blocks) ⊎ (page_in x ≡ new)) (block_count m) r refl plan.fits plan.always

      ended : m.live ≡ true → (page_in m'.blocks ≡ page_in m.blocks) ⊎ (page_in m'.blocks ≡ new) → Installed (store_on m) blocks set' images (Some q) (store_on m')
      ended l (inl old) = (
        FailsOld cut.0,
        subst (λ s. InstalledBy (FailsOld cut.0) s blocks set' images (Some q) (store_on m')) (sym (at-state m true room l))
            (begun set' images long some blocks (page_in m.blocks) (FailsOld cut.0) (Some q) (store_on m') within (ap Some cut.2) (dead' ∙ ap (λ g. with_state g Dead) old)),
      )
      ended l (inr turn) = (
        FailsNew cut.0,
        subst (λ s. InstalledBy (FailsNew cut.0) s blocks set' images (Some q) (store_on m')) (sym (at-state m true room l))
            (begun set' images long some blocks (page_in m.blocks) (FailsNew cut.0) (Some q) (store_on m') within (ap Some cut.2) (dead' ∙ ap (λ g. with_state g Dead) turn)),
      )

      go : (l : Bool) → m.live ≡ l → Installed (store_on m) blocks set' images (Some q) (store_on m')
      go true l = ended l sees
      go false l =
          let still = cut.4 l in (
            FailsOld 0,
            subst (λ s. InstalledBy (FailsOld 0) s blocks set' images (Some q) (store_on m')) (sym (at-state m false room l))
                (dead-refuses set' images long some blocks (page_in m.blocks) (Some q) (store_on m') (omega (arith, written, listed))
                (ap Some (cut.2 ∙ ap (λ i. report (PowerLost (get_or (map (λ w. w.block) ws) i 0))) still.0))
                (dead' ∙ ap (λ x. with_state (page_in x) Dead) still.1)),
          )

  pub ran-installs : (o : Option Report) → Ran m ws o m' → Installed (store_on m) (map (λ w. w.block) ws) set' images o (store_on m')
  unfolding blocks
  ran-installs None r = passes r
  ran-installs (Some q) r = fails q r

-- an empty set passes, and changes nothing
empty_installs : (m : Device) (plan : List ℕ) (images : List ℕ) → length images ≡ 16384 → 129 ≤ block_count m → (set' : ℕ) → set' ≡ 0 → Installed (store_on m) plan set' images None (store_on m)
empty_installs m plan images long room set' z = (
  Passes,
  subst (λ s. InstalledBy Passes s plan set' images None s) (sym (store_long m room))
      (record {
        possible = tt;
        answer = sym (rw (eq-eqb (length images) 16384 long, eq-eqb set' 0 z) (live m.live));
        after = sym (rw (eq-eqb (length images) 16384 long, eq-eqb set' 0 z) refl);
      }),
)
  where
    live : (l : Bool) → check (is_short (cond l Live Dead)) (report TooShort) None ≡ None
    live true = refl
    live false = refl

-- ---- the two ways of installing

-- what a way of installing promises of a run of its writes
abbrev pub Done : (List (List ℕ) → ℕ → List ℕ → List Write) → (List (List ℕ) → ℕ → List ℕ) → Device → Device → ℕ → List ℕ → Option Report → Type 0
Done writes plan m m' set' images o =
    Ran m (writes m.blocks set' images) o m' × (129 ≤ block_count m → Installed (store_on m) (plan m.blocks set') set' images o (store_on m'))

module _ (writes : List (List ℕ) → ℕ → List ℕ → List Write) (plan : List (List ℕ) → ℕ → List ℕ) (m : Device) (set' : ℕ) (images : List ℕ) (long : length images ≡ 16384) where
  -- nothing is written for an empty set
  pub idle : set' ≡ 0 → writes m.blocks set' images ≡ [] → Done writes plan m m set' images None
  idle z none = (
    subst (λ ws. Ran m ws None m) (sym none) done,
    λ room. empty_installs m (plan m.blocks set') images long room set' z,
  )

  -- a run of writes that install the set
  started : (m' : Device) (o : Option Report) → (set' ≡ 0 → ⊥) → blocks_in (writes m.blocks set' images) ≡ plan m.blocks set' → (ws : List Write) → writes m.blocks set' images ≡ ws → 0 < length ws
      → (129 ≤ block_count m → Installs m.blocks ws (installed set' images (page_in m.blocks))) → Ran m ws o m' → Done writes plan m m' set' images o
  started m' o some planned ws parts written installs r = (
    subst (λ vs. Ran m vs o m') (sym parts) r,
    λ room.
        subst (λ bs. Installed (store_on m) bs set' images o (store_on m')) (ap blocks_in (sym parts) ∙ planned)
        (ran-installs m m' room set' images long some ws written (installs room) o r),
  )

module _ (m : Device) (set' : ℕ) (images : List ℕ) (long : length images ≡ 16384) (m' : Device) (some : set' ≡ 0 → ⊥) (within : set' < 2 ^ 64) (o : Option Report) where
  pub journal_done : Whole m → Ran m (settle_writes m.blocks ++ (image_writes every_page set' (pictured images) ++ (set_write set' ∷ (image_writes 0 set' (pictured images) ++ (set_write 0 ∷ []))))) o m'
      → Done journal_writes journal_plan m m' set' images o
  journal_done whole r =
      started journal_writes journal_plan m set' images long m' o some (journal_plan_lem m.blocks set' images) _ (journal_some m.blocks set' images some)
      (longer (settle_writes m.blocks) (image_writes every_page set' (pictured images)) (set_write set') (image_writes 0 set' (pictured images) ++ (set_write 0 ∷ [])))
      (λ room. journal_installs m.blocks room set' within images long whole some) r
    where
      longer : (us vs : List Write) (w : Write) (ws : List Write) → 0 < length (us ++ (vs ++ (w ∷ ws)))
      longer us vs w ws = omega (arith, length-append us (vs ++ (w ∷ ws)), length-append vs (w ∷ ws))

  pub shadow_done : (upper : ℕ) → upper < 2 ^ 64 → upper ≡ set_in m.blocks → Ran m (image_writes (bit_xor upper every_page) set' (pictured images) ++ (set_write (bit_xor upper set') ∷ [])) o m'
      → Done shadow_writes shadow_plan m m' set' images o
  shadow_done upper low here r =
      started shadow_writes shadow_plan m set' images long m' o some (shadow_plan_lem m.blocks set' images) _ (shadow_some m.blocks set' images some)
      (longer (image_writes (bit_xor (set_in m.blocks) every_page) set' (pictured images)) (set_write (bit_xor (set_in m.blocks) set')))
      (λ room. shadow_installs m.blocks room set' within images long (subst (λ u. u < 2 ^ 64) here low) some)
      (subst (λ u. Ran m (image_writes (bit_xor u every_page) set' (pictured images) ++ (set_write (bit_xor u set') ∷ [])) o m') here r)
    where
      longer : (us : List Write) (w : Write) → 0 < length (us ++ (w ∷ []))
      longer us w = omega (arith, length-append us (w ∷ []))

-- behind the checks of an install, a run of its writes is an install
check-passed : (m : Device) (images : List ℕ) → None ≡ install_check m images → 129 ≤ block_count m
check-passed m images e = grind (arith, nat_tests)

pub checked : (writes : List (List ℕ) → ℕ → List ℕ → List Write) (plan : List (List ℕ) → ℕ → List ℕ) (m m' : Device) (set' : ℕ) (images all : List ℕ) (o : Option Report)
    → None ≡ install_check m images → all ≡ images → Done writes plan m m' set' all o
    → Installed (store_on m) (plan m.blocks set') set' images o (store_on m') × Carried m (writes m.blocks set' images) images o m'
checked writes plan m m' set' images all o passed same r =
    let here : Done writes plan m m' set' images o = subst (λ x. Done writes plan m m' set' x o) same r in
    (here.1 (check-passed m images passed), rw (sym passed) here.0)
