-- What a kind's reply comes to where the buffers have the right lengths.
use Rattle.std.proofs.Common.{◌≡◌, ℕ, ◌-◌, ◌*◌, ◌≤◌, cond, ◌&&◌, List, length, take, Ok, Err, Result, refl, ap, ◌∙◌, ap₂, arith}
use Rattle.std.proofs.lemmas.List.{length-take}
use Rattle.std.proofs.lemmas.Bool.{eq-eqb}
use Rattle.sets.specs.Sets.{size}
use Rattle.kinds.specs.Kinds.{Meaning, Lawful, within, reply, answer, filled}
use Rattle.volume.specs.Working.{gathered, written}
use Rattle.volume.specs.Performing.{outcome, performed}

module _ (k : Meaning) (law : Lawful k) (body : List ℕ) (reads writes : ℕ) (scoped : k.scope body ≡ Ok (reads, writes)) where
  pub reads_few : size reads ≤ 4
  reads_few = let s = law.scoped body reads writes scoped in omega (arith, s.reads_few, law.limit_to)

  pub writes_few : size writes ≤ 4
  writes_few = let s = law.scoped body reads writes scoped in omega (arith, s.writes_few, law.limit_to)

  -- the lengths are right: the reply is the effect
  pub reply-is : (old : List ℕ) (n : ℕ) → length old ≡ 224 * size reads → n ≡ 224 * size writes → reply k body old n ≡ k.effect body old
  unfolding reply
  reply-is old n eo en =
      ap (λ s. within s (length old) n (k.effect body old)) scoped
      ∙ ap₂ (λ x y. cond (x && y) (k.effect body old) (Err 2)) (eq-eqb (length old) (224 * size reads) eo) (eq-eqb n (224 * size writes) en)

  -- the same where the read pages' contents stand in front of a buffer
  pub reply-gathered : (images : ℕ → List ℕ) (used : ℕ) (buffer : List ℕ) (n : ℕ) → used ≡ 224 * size reads → length buffer ≡ 896
      → take used buffer ≡ gathered reads images → n ≡ 224 * size writes → reply k body (take (used - 0) buffer) n ≡ outcome k body reads images
  reply-gathered images used buffer n u l f w =
      let few = reads_few in
      let z : used - 0 ≡ used = omega arith in
      ap (λ m. reply k body (take m buffer) n) z
      ∙ reply-is (take used buffer) n (simp length-take (omega arith)) w
      ∙ ap (k.effect body) f

-- the pages after a kind's answer
pub done_ok : (x : Result (List ℕ) ℕ) (v before : List ℕ) (w n : ℕ) (images after : ℕ → List ℕ) → Ok tt ≡ answer x → v ≡ filled x before
    → ((q : ℕ) → after q ≡ written w n v images q) → (q : ℕ) → after q ≡ performed x w n images q
done_ok (Ok new) v before w n images after a f h q = h q ∙ ap (λ y. written w n y images q) f
done_ok (Err c) v before w n images after a f h q = absurd (let z : ◌≡◌ {A = ℕ} 0 1 = cc in omega arith)

pub done-err : (x : Result (List ℕ) ℕ) (c w n : ℕ) (images : ℕ → List ℕ) → Err c ≡ answer x → (q : ℕ) → images q ≡ performed x w n images q
done-err (Ok new) c w n images a q = absurd (let z : ◌≡◌ {A = ℕ} 0 1 = cc in omega arith)
done-err (Err d) c w n images a q = refl
