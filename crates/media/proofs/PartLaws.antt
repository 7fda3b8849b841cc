-- A partition reads and writes as a medium of its own.
use Rattle.std.proofs.Common.{◌≡◌, ℕ, ◌+◌, ◌<◌, ◌≤◌, Bool, true, false, cond, not, ◌&&◌, eqb, leb, List, [], length, get_or, take, drop, set, Some, None, Option, Result, Ok, Err, sym, refl, ap, ◌∙◌, inl, inr, arith}
use lib.Seq.{take-set-lt}
use Rattle.std.proofs.lemmas.List.{length-take, length-drop, length-set, get_or-take, get_or-drop, drop-set-add}
use Rattle.std.proofs.lemmas.Bool.{lt-ltb, le-leb, lt-leb, leb-true, cases_Bool}
use Rattle.std.specs.Option.{option_map}
use Rattle.std.specs.Result.{MatchResult, IsErrAnd}
use Rattle.media.specs.declared.fate.Fate.{Fate}
use Rattle.faults.specs.declared.fault.Fault.{Fault}
use Rattle.faults.specs.declared.fault.Fault.TheVariants.{WrongLength, PowerLost}
use Rattle.faults.specs.Faults.{Report, report, refusal}
use Rattle.media.specs.Media.{Device, block_count, block_at, check, dies, lands, write_fault, begins, fated, after_write, WroteBy}
use Rattle.media.specs.Parts.{part_of, retell}

module _ (a n : ℕ) (m : Device) where
  -- it has all its blocks, or none
  pub part-whole : a + n ≤ block_count m → block_count (part_of a n m) ≡ n
  part-whole h = rw (le-leb (a + n) (block_count m) h) (simp (length-take, length-drop) (omega arith))

  -- where a block is there, the medium holds the whole partition
  pub part-fits : (b : ℕ) → b < block_count (part_of a n m) → (a + n ≤ block_count m) × (b < n)
  part-fits b h = elim (cases_Bool (leb (a + n) (block_count m))) [
    | inl e ↦ let le = leb-true (a + n) (block_count m) e in let w = part-whole le in (le, omega arith)
    | inr e ↦ absurd (let z : block_count (part_of a n m) ≡ 0 = ap (λ t. length (cond t (take n (drop a m.blocks)) [])) e in omega arith)
  ]

  module _ (b : ℕ) (there : b < block_count (part_of a n m)) where
    part-blocks : (part_of a n m).blocks ≡ take n (drop a m.blocks)
    part-blocks = ap (λ t. cond t (take n (drop a m.blocks)) []) (le-leb (a + n) (block_count m) (part-fits b there).0)

    part_at : block_at (part_of a n m) b ≡ block_at m (a + b)
    part_at =
        let lt = (part-fits b there).1 in
        ap (λ bs. get_or bs b []) part-blocks ∙ get_or-take n (drop a m.blocks) b [] lt ∙ get_or-drop a m.blocks b []

    below : a + b < block_count m
    below = let f = part-fits b there in omega arith

    part-begins : (d : List ℕ) → begins m (a + b) d ≡ begins (part_of a n m) b d
    part-begins d = ap (λ t. (t && eqb (length d) 256) && m.live) (lt-ltb (a + b) (block_count m) below ∙ sym (lt-ltb b (block_count (part_of a n m)) there))

    -- the refusal, with a lost block told by the partition's count
    pub part-write_fault : (f : Fate) (d : List ℕ) → option_map (retell b) (write_fault f m (a + b) d) ≡ write_fault f (part_of a n m) b d
    part-write_fault f d =
        rw (lt-leb (block_count m) (a + b) below, lt-leb (block_count (part_of a n m)) b there)
        (told (not (eqb (length d) 256)) (not m.live) (dies f))
      where
        told : (x y z : Bool)
            → option_map (retell b) (check x (report (WrongLength (length d))) (check y (report (PowerLost (a + b))) (check z (report (PowerLost (a + b))) None)))
            ≡ check x (report (WrongLength (length d))) (check y (report (PowerLost b)) (check z (report (PowerLost b)) None))
        told true y z = refl
        told false true z = refl
        told false false true = refl
        told false false false = refl

    -- a block of the partition replaced
    put-inside : (d : List ℕ) → (part_of a n (record { blocks = set m.blocks (a + b) d; live = m.live })).blocks ≡ set (part_of a n m).blocks b d
    put-inside d =
        let f = part-fits b there in
        ap (λ k. cond (leb (a + n) k) (take n (drop a (set m.blocks (a + b) d))) []) (length-set m.blocks (a + b) d)
        ∙ ap (λ t. cond t (take n (drop a (set m.blocks (a + b) d))) []) (le-leb (a + n) (block_count m) f.0)
        ∙ ap (take n) (drop-set-add a m.blocks b d) ∙ take-set-lt n (drop a m.blocks) b d f.1
        ∙ ap (λ bs. set bs b d) (sym part-blocks)

    part-fated : (f : Fate) (d : List ℕ) → part_of a n (fated f m (a + b) d) ≡ fated f (part_of a n m) b d
    part-fated f d = ap (λ bs. record { blocks = bs; live = not (dies f) }) (landed (lands f))
      where
        landed : (t : Bool) → (part_of a n (record { blocks = cond t (set m.blocks (a + b) d) m.blocks; live = not (dies f) })).blocks
            ≡ cond t (set (part_of a n m).blocks b d) (part_of a n m).blocks
        landed true = put-inside d
        landed false = refl

    part-after : (f : Fate) (d : List ℕ) → part_of a n (after_write f m (a + b) d) ≡ after_write f (part_of a n m) b d
    part-after f d = ap (λ t. part_of a n (cond t (fated f m (a + b) d) m)) (part-begins d) ∙ begun (begins (part_of a n m) b d)
      where
        begun : (t : Bool) → part_of a n (cond t (fated f m (a + b) d) m) ≡ cond t (fated f (part_of a n m) b d) (part_of a n m)
        begun true = part-fated f d
        begun false = refl

    -- the partition's own write
    pub part-wrote : (f : Fate) (d : List ℕ) (o : Option Report) (m' : Device) → WroteBy f m (a + b) d o m'
        → WroteBy f (part_of a n m) b d (option_map (retell b) o) (part_of a n m')
    part-wrote f d o m' w = record { answer = ap (option_map (retell b)) w.answer ∙ part-write_fault f d; after = ap (part_of a n) w.after ∙ part-after f d }

-- a refusal of the medium below, told anew
pub told_anew : (b : ℕ) (Told : Fault → Fault → Type 0) (below above : Result (Unit {0}) Fault) → MatchResult below (λ x. above ≡ Ok x) (λ e. IsErrAnd above (Told e))
    → ((e f : Fault) → Told e f → report f ≡ retell b (report e)) → refusal above ≡ option_map (retell b) (refusal below)
told_anew b Told (Ok x) above e h = ap refusal e
told_anew b Told (Err f) (Ok x) e h = absurd e
told_anew b Told (Err f) (Err k) e h = ap Some (h f k e)
