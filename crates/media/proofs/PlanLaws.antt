-- The laws of runs of many writes. A law about a plan, once shown between its writes, holds wherever the power fails.
use Rattle.std.proofs.Common.{◌≡◌, ℕ, suc, ◌<◌, Bool, true, false, cond, not, ◌⊎◌, List, [], ◌∷◌, ◌++◌, map, length, get_or, set, Some, None, Option, sym, refl, ap, ◌∙◌, subst, inl, inr, arith}
use Rattle.std.proofs.lemmas.List.{length-set, get_or-set_other}
use Rattle.std.proofs.lemmas.Bool.{lt-ltb, lt-leb, eq-eqb, true≢false}
use Rattle.std.specs.List.{AllByRecursion as All}
use Rattle.media.specs.declared.fate.Fate.{Fate}
use Rattle.media.specs.declared.fate.Fate.TheVariants.{Lives, DiesOld, DiesNew}
use Rattle.faults.specs.declared.fault.Fault.TheVariants.{PowerLost}
use Rattle.faults.specs.Faults.{Report, report}
use Rattle.media.specs.Media.{Device, block_count, block_at, check, dies, lands, write_fault, begins, fated, after_write, WroteBy, Wrote}
use Rattle.media.specs.Plans.{Write, Ran, put, puts, Fitting, Throughout}
use Rattle.media.specs.Plans.Ran.{done, stops, goes}

-- ---- one after the other

pub ran_append : {m m₁ m' : Device} {ws vs : List Write} {o : Option Report} {q : Option Report} → Ran m ws q m₁ → q ≡ None → Ran m₁ vs o m' → Ran m (ws ++ vs) o m'
ran_append done e r = r
ran_append (stops f w) e r = absurd (let z : ◌≡◌ {A = ℕ} 0 1 = cc in omega arith)
ran_append (goes f w rest) e r = goes f w (ran_append rest e r)

-- stopped early: what was still to come does not matter
pub ran-cut : (vs : List Write) (r : Report) {m m' : Device} {ws : List Write} {q : Option Report} → Ran m ws q m' → q ≡ Some r → Ran m (ws ++ vs) q m'
ran-cut vs r done e = absurd (let z : ◌≡◌ {A = ℕ} 0 1 = cc in omega arith)
ran-cut vs r (stops f w) e = stops f w
ran-cut vs r (goes f w rest) e = goes f w (ran-cut vs r rest e)

-- the same of a run that passes, and of one that is refused
pub ran_then : {m m₁ m' : Device} {ws vs : List Write} {o : Option Report} → Ran m ws None m₁ → Ran m₁ vs o m' → Ran m (ws ++ vs) o m'
ran_then r s = ran_append r refl s

pub ran_refused : (vs : List Write) {r : Report} {m m' : Device} {ws : List Write} → Ran m ws (Some r) m' → Ran m (ws ++ vs) (Some r) m'
ran_refused vs {r} s = ran-cut vs r s refl

-- one write
pub ran-one : (w : Write) (m m' : Device) (o : Option Report) (f : Fate) → WroteBy f m w.block w.bytes o m' → Ran m (w ∷ []) o m'
ran-one w m m' None f h = goes f h done
ran-one w m m' (Some r) f h = stops f h

-- ---- what a write that fits does

module _ (f : Fate) (m m' : Device) (w : Write) (in' : w.block < block_count m) (long : length w.bytes ≡ 256) where
  fits-fault : write_fault f m w.block w.bytes ≡ check (not m.live) (report (PowerLost w.block)) (check (dies f) (report (PowerLost w.block)) None)
  fits-fault = rw (lt-leb (block_count m) w.block in', eq-eqb (length w.bytes) 256 long) refl

  fits-begins : begins m w.block w.bytes ≡ m.live
  fits-begins = rw (lt-ltb w.block (block_count m) in', eq-eqb (length w.bytes) 256 long) refl

  -- it passes: the medium was live and stays so, and the block is new
  pub passed : WroteBy f m w.block w.bytes None m' → (m.live ≡ true) × (m' ≡ record { blocks = put m.blocks w; live = true })
  passed h = go m.live refl f refl (sym fits-fault ∙ sym h.answer) h.after
    where
      go : (l : Bool) → m.live ≡ l → (x : Fate) → f ≡ x
          → check (not m.live) (report (PowerLost w.block)) (check (dies f) (report (PowerLost w.block)) None) ≡ None
          → m' ≡ after_write f m w.block w.bytes
          → (m.live ≡ true) × (m' ≡ record { blocks = put m.blocks w; live = true })
      go false el x ex e a = absurd (let z : ◌≡◌ {A = ℕ} 0 1 = cc in omega arith)
      go true el Lives ex e a = (el, a ∙ ap (λ t. cond t (fated f m w.block w.bytes) m) (fits-begins ∙ el) ∙ ap (λ y. fated y m w.block w.bytes) ex)
      go true el DiesOld ex e a = absurd (let z : ◌≡◌ {A = ℕ} 0 1 = cc in omega arith)
      go true el DiesNew ex e a = absurd (let z : ◌≡◌ {A = ℕ} 0 1 = cc in omega arith)

  -- it is refused: the medium is dead after it, with the block old or new, and a dead medium is as it was
  pub failed : (r : Report) → WroteBy f m w.block w.bytes (Some r) m'
      → (r ≡ report (PowerLost w.block)) × (m'.live ≡ false) × ((m'.blocks ≡ m.blocks) ⊎ ((m.live ≡ true) × (m'.blocks ≡ put m.blocks w)))
  failed r h = go m.live refl f refl (h.answer ∙ fits-fault) h.after
    where
      go : (l : Bool) → m.live ≡ l → (x : Fate) → f ≡ x
          → Some r ≡ check (not m.live) (report (PowerLost w.block)) (check (dies f) (report (PowerLost w.block)) None)
          → m' ≡ after_write f m w.block w.bytes
          → (r ≡ report (PowerLost w.block)) × (m'.live ≡ false) × ((m'.blocks ≡ m.blocks) ⊎ ((m.live ≡ true) × (m'.blocks ≡ put m.blocks w)))
      go false el x ex e a =
          let s : m' ≡ m = a ∙ ap (λ t. cond t (fated f m w.block w.bytes) m) (fits-begins ∙ el) in
          let n : r ≡ report (PowerLost w.block) = cc in
          (n, ap (λ d. d.live) s ∙ el, inl (ap (λ d. d.blocks) s))
      go true el Lives ex e a = absurd (let z : ◌≡◌ {A = ℕ} 0 1 = cc in omega arith)
      go true el DiesOld ex e a =
          let s : m' ≡ fated DiesOld m w.block w.bytes = a ∙ ap (λ t. cond t (fated f m w.block w.bytes) m) (fits-begins ∙ el) ∙ ap (λ y. fated y m w.block w.bytes) ex in
          let n : r ≡ report (PowerLost w.block) = cc in
          (n, ap (λ d. d.live) s, inl (ap (λ d. d.blocks) s))
      go true el DiesNew ex e a =
          let s : m' ≡ fated DiesNew m w.block w.bytes = a ∙ ap (λ t. cond t (fated f m w.block w.bytes) m) (fits-begins ∙ el) ∙ ap (λ y. fated y m w.block w.bytes) ex in
          let n : r ≡ report (PowerLost w.block) = cc in
          (n, ap (λ d. d.live) s, inr (el, ap (λ d. d.blocks) s))

-- ---- what holds between any two writes holds wherever the run ends

pub throughout-first : (P : List (List ℕ) → Type 0) (bs : List (List ℕ)) (ws : List Write) → Throughout P bs ws → P bs
unfolding Throughout
throughout-first P bs [] t = t
throughout-first P bs (w ∷ ws) t = t.0

count-put : (m m₁ : Device) (w : Write) → m₁ ≡ record { blocks = put m.blocks w; live = true } → block_count m₁ ≡ block_count m
count-put m m₁ w e = ap block_count e ∙ length-set m.blocks w.block w.bytes

pub throughout-ran : (P : List (List ℕ) → Type 0) (n : ℕ) {m m' : Device} {ws : List Write} {o : Option Report}
    → Ran m ws o m' → block_count m ≡ n → Fitting n ws → Throughout P m.blocks ws → P m'.blocks
unfolding Throughout Fitting
throughout-ran P n done e fit t = t
throughout-ran P n {m} {m'} (stops {w} {ws} {r} f h) e fit t =
    elim (failed f m m' w (omega (arith, fit.0.0)) fit.0.1 r h).2 [
      | inl old ↦ subst P (sym old) t.0
      | inr new ↦ subst P (sym new.1) (throughout-first P (put m.blocks w) ws t.1)
    ]
throughout-ran P n {m} {m'} (goes {m₁} {w} {ws} f h rest) e fit t =
    let p = passed f m m₁ w (omega (arith, fit.0.0)) fit.0.1 h in
    throughout-ran P n rest (count-put m m₁ w p.1 ∙ e) fit.1 (subst (λ d. Throughout P d.blocks ws) (sym p.1) t.1)

-- a run that passes has made all its writes
pub ran-passed : (n : ℕ) {m m' : Device} {ws : List Write} {o : Option Report}
    → Ran m ws o m' → o ≡ None → block_count m ≡ n → Fitting n ws → (m'.blocks ≡ puts m.blocks ws) × (m'.live ≡ m.live)
unfolding puts Fitting
ran-passed n done z e fit = (refl, refl)
ran-passed n (stops f h) z e fit = absurd (let x : ◌≡◌ {A = ℕ} 0 1 = cc in omega arith)
ran-passed n {m} {m'} (goes {m₁} {w} {ws} f h rest) z e fit =
    let p = passed f m m₁ w (omega (arith, fit.0.0)) fit.0.1 h in
    let ih = ran-passed n rest z (count-put m m₁ w p.1 ∙ e) fit.1 in
    (ih.0 ∙ ap (λ d. puts d.blocks ws) p.1, ih.1 ∙ ap (λ d. d.live) p.1 ∙ sym p.0)

-- one that is refused lost the power at one of its blocks; on a dead medium that is the first, and nothing changes
pub ran-failed : (n : ℕ) {m m' : Device} {ws : List Write} {o : Option Report}
    → Ran m ws o m' → (r : Report) → o ≡ Some r → block_count m ≡ n → Fitting n ws
    → (i : ℕ) × (i < length ws) × (r ≡ report (PowerLost (get_or (map (λ w. w.block) ws) i 0))) × (m'.live ≡ false) × (m.live ≡ false → (i ≡ 0) × (m'.blocks ≡ m.blocks))
unfolding Fitting
ran-failed n done r z e fit = absurd (let x : ◌≡◌ {A = ℕ} 0 1 = cc in omega arith)
ran-failed n {m} {m'} (stops {w} {ws} {r = q} f h) r z e fit =
    let p = failed f m m' w (omega (arith, fit.0.0)) fit.0.1 q h in
    let same : r ≡ q = cc in
    (0, omega arith, same ∙ p.0, p.1, λ dead. (refl, kept dead p.2))
  where
    kept : m.live ≡ false → (m'.blocks ≡ m.blocks) ⊎ ((m.live ≡ true) × (m'.blocks ≡ put m.blocks w)) → m'.blocks ≡ m.blocks
    kept dead (inl old) = old
    kept dead (inr new) = absurd (true≢false (sym new.0 ∙ dead))
ran-failed n {m} {m'} (goes {m₁} {w} {ws} f h rest) r z e fit =
    let p = passed f m m₁ w (omega (arith, fit.0.0)) fit.0.1 h in
    let ih = ran-failed n rest r z (count-put m m₁ w p.1 ∙ e) fit.1 in
    (suc ih.0, omega (arith, ih.1), ih.2, ih.3, λ dead. absurd (true≢false (sym p.0 ∙ dead)))

-- ---- plans put together

pub throughout-append : (P : List (List ℕ) → Type 0) (bs : List (List ℕ)) (ws vs : List Write) → Throughout P bs ws → Throughout P (puts bs ws) vs → Throughout P bs (ws ++ vs)
unfolding Throughout puts
throughout-append P bs [] vs t u = u
throughout-append P bs (w ∷ ws) vs t u = (t.0, throughout-append P (put bs w) ws vs t.1 u)

pub throughout-weaker : (P Q : List (List ℕ) → Type 0) → ((bs : List (List ℕ)) → P bs → Q bs) → (bs : List (List ℕ)) (ws : List Write) → Throughout P bs ws → Throughout Q bs ws
unfolding Throughout
throughout-weaker P Q f bs [] t = f bs t
throughout-weaker P Q f bs (w ∷ ws) t = (f bs t.0, throughout-weaker P Q f (put bs w) ws t.1)

pub throughout-last : (P : List (List ℕ) → Type 0) (bs : List (List ℕ)) (ws : List Write) → Throughout P bs ws → P (puts bs ws)
unfolding Throughout puts
throughout-last P bs [] t = t
throughout-last P bs (w ∷ ws) t = throughout-last P (put bs w) ws t.1

pub puts-append : (bs : List (List ℕ)) (ws vs : List Write) → puts bs (ws ++ vs) ≡ puts (puts bs ws) vs
unfolding puts
puts-append bs [] vs = refl
puts-append bs (w ∷ ws) vs = puts-append (put bs w) ws vs

pub length-puts : (bs : List (List ℕ)) (ws : List Write) → length (puts bs ws) ≡ length bs
unfolding puts
length-puts bs [] = refl
length-puts bs (w ∷ ws) = length-puts (put bs w) ws ∙ length-set bs w.block w.bytes

pub fitting-append : (n : ℕ) (ws vs : List Write) → Fitting n ws → Fitting n vs → Fitting n (ws ++ vs)
unfolding Fitting
fitting-append n [] vs f g = g
fitting-append n (w ∷ ws) vs f g = (f.0, fitting-append n ws vs f.1 g)

-- A plan of which one write alone changes what is seen: at every point all is old, or all is as that write made it.
pub atomic : {V : Type 0} (see : List (List ℕ) → V) (bs : List (List ℕ)) (before : List Write) (w : Write) (after : List Write)
    → Throughout (λ x. see x ≡ see bs) bs before
    → Throughout (λ x. see x ≡ see (puts bs (before ++ w ∷ []))) (puts bs (before ++ w ∷ [])) after
    → Throughout (λ x. (see x ≡ see bs) ⊎ (see x ≡ see (puts bs (before ++ w ∷ [])))) bs (before ++ w ∷ after)
unfolding Throughout puts
atomic see bs before w after t u =
    let P : List (List ℕ) → Type 0 = λ x. (see x ≡ see bs) ⊎ (see x ≡ see (puts bs (before ++ w ∷ []))) in
    throughout-append P bs before (w ∷ after)
    (throughout-weaker (λ x. see x ≡ see bs) P (λ x e. inl e) bs before t) (
      inl (throughout-last (λ x. see x ≡ see bs) bs before t),
      subst (λ x. Throughout P x after) (puts-append bs before (w ∷ []))
          (throughout-weaker (λ x. see x ≡ see (puts bs (before ++ w ∷ []))) P (λ x e. inr e) (puts bs (before ++ w ∷ [])) after u),
    )

-- ---- on any medium

-- no write changes the count
after-count : (f : Fate) (m : Device) (b : ℕ) (d : List ℕ) → block_count (after_write f m b d) ≡ block_count m
after-count f m b d = go (begins m b d) (lands f)
  where
    go : (t u : Bool) → length (cond t (record { blocks = cond u (set m.blocks b d) m.blocks; live = not (dies f) }) m).blocks ≡ length m.blocks
    go true true = length-set m.blocks b d
    go true false = refl
    go false u = refl

pub ran-count : {m m' : Device} {ws : List Write} {o : Option Report} → Ran m ws o m' → block_count m' ≡ block_count m
ran-count done = refl
ran-count {m} (stops {w} f h) = ap block_count h.after ∙ after-count f m w.block w.bytes
ran-count {m} (goes {w} f h rest) = ran-count rest ∙ ap block_count h.after ∙ after-count f m w.block w.bytes

-- a run that writes something passes only on a live medium
pub ran-lives : (n : ℕ) {m m' : Device} {ws : List Write} {o : Option Report} → Ran m ws o m' → o ≡ None → block_count m ≡ n → Fitting n ws → 0 < length ws → m.live ≡ true
unfolding Fitting
ran-lives n done z e fit some = absurd (omega arith)
ran-lives n (stops f h) z e fit some = absurd (let x : ◌≡◌ {A = ℕ} 0 1 = cc in omega arith)
ran-lives n {m} (goes {m₁} {w} f h rest) z e fit some = (passed f m m₁ w (omega (arith, fit.0.0)) fit.0.1 h).0

-- one write, as a call of a medium tells it
pub ran-wrote : (w : Write) (m m' : Device) (b : ℕ) (d : List ℕ) (o : Option Report) → Wrote m b d o m' → b ≡ w.block → d ≡ w.bytes → Ran m (w ∷ []) o m'
ran-wrote w m m' b d o h eb ed = ran-one w m m' o h.0 (subst (λ x. WroteBy h.0 m x w.bytes o m') eb (subst (λ x. WroteBy h.0 m b x o m') ed h.1))

-- a block that no write names stays as it was
after-other : (f : Fate) (m : Device) (a : ℕ) (d : List ℕ) (b : ℕ) → (a ≡ b → ⊥) → block_at (after_write f m a d) b ≡ block_at m b
after-other f m a d b ne = go (begins m a d) (lands f)
  where
    go : (t u : Bool) → get_or (cond t (record { blocks = cond u (set m.blocks a d) m.blocks; live = not (dies f) }) m).blocks b [] ≡ get_or m.blocks b []
    go true true = get_or-set_other m.blocks a b d [] (λ e. ne (sym e))
    go true false = refl
    go false u = refl

pub ran-keeps : (b : ℕ) {m m' : Device} {ws : List Write} {o : Option Report} → Ran m ws o m' → All (λ w. w.block ≡ b → ⊥) ws → block_at m' b ≡ block_at m b
ran-keeps b done apart = refl
ran-keeps b {m} (stops {w} f h) apart = ap (λ x. block_at x b) h.after ∙ after-other f m w.block w.bytes b apart.0
ran-keeps b {m} (goes {w} f h rest) apart = ran-keeps b rest apart.1 ∙ ap (λ x. block_at x b) h.after ∙ after-other f m w.block w.bytes b apart.0
