-- A pair of kinds is a kind.
use Rattle.std.specs.Prelude.{◌≡◌, ℕ, ◌*◌, ◌<◌, ◌≤◌, true, false, List, length, drop, Ok, Err, Result, ◌==◌, ◌≢◌, slice_index, refl}
use Rattle.std.proofs.Common.{inl, inr, sym, ◌∙◌, arith}
use Rattle.std.proofs.ByRecursion.{All-drop}
use Rattle.std.proofs.lemmas.Bool.{cond-true, cond-false, cases_Bool, eq-eqb, ne_eqb}
use Rattle.sets.specs.Sets.{size}
use Rattle.kinds.specs.Kinds.{Meaning, Bytes, Scoped, Lawful, within, reply}
use Rattle.kinds.specs.Pairs.{choose, pair_meaning}

-- the three ways of a choice
pub choose-first : {X : Type 0} (b : List ℕ) (f g : List ℕ → Result X ℕ) → (slice_index b 0 == 1) ≡ true → choose b f g ≡ f (drop 1 b)
choose-first b f g e = cond-true (slice_index b 0 == 1) (f (drop 1 b)) _ e

pub choose-second : {X : Type 0} (b : List ℕ) (f g : List ℕ → Result X ℕ) → (slice_index b 0 == 1) ≡ false → (slice_index b 0 == 2) ≡ true → choose b f g ≡ g (drop 1 b)
choose-second b f g e h = cond-false (slice_index b 0 == 1) (f (drop 1 b)) _ e ∙ cond-true (slice_index b 0 == 2) (g (drop 1 b)) _ h

pub choose-none : {X : Type 0} (b : List ℕ) (f g : List ℕ → Result X ℕ) → (slice_index b 0 == 1) ≡ false → (slice_index b 0 == 2) ≡ false → choose b f g ≡ Err 1
choose-none b f g e h = cond-false (slice_index b 0 == 1) (f (drop 1 b)) _ e ∙ cond-false (slice_index b 0 == 2) (g (drop 1 b)) _ h

module _ (m n : Meaning) where
  -- what the pair answers to a body is what a kind answers to the rest, or code 1
  record Chosen (b : List ℕ) (k : Meaning) (rest : List ℕ) : Type 0 where
    by_scope : (pair_meaning m n).scope b ≡ k.scope rest
    by_effect : (old : List ℕ) → (pair_meaning m n).effect b old ≡ k.effect rest old

  first : (b : List ℕ) → (slice_index b 0 == 1) ≡ true → Chosen b m (drop 1 b)
  first b e = record { by_scope = choose-first b m.scope n.scope e; by_effect = λ old. choose-first b (λ rest. m.effect rest old) (λ rest. n.effect rest old) e }

  second : (b : List ℕ) → (slice_index b 0 == 1) ≡ false → (slice_index b 0 == 2) ≡ true → Chosen b n (drop 1 b)
  second b e h = record { by_scope = choose-second b m.scope n.scope e h; by_effect = λ old. choose-second b (λ rest. m.effect rest old) (λ rest. n.effect rest old) e h }

  -- a kind that refuses every body
  nothing : Meaning
  nothing = record { limit = 1; scope = λ _. Err 1; effect = λ _ _. Err 1 }

  neither : (b : List ℕ) → (slice_index b 0 == 1) ≡ false → (slice_index b 0 == 2) ≡ false → Chosen b nothing (drop 1 b)
  unfolding nothing
  neither b e h = record { by_scope = choose-none b m.scope n.scope e h; by_effect = λ old. choose-none b (λ rest. m.effect rest old) (λ rest. n.effect rest old) e h }

  nothing_lawful : Lawful nothing
  unfolding nothing
  nothing_lawful = record {
    limit_from = omega arith;
    limit_to = omega arith;
    scoped = λ b r w e. absurd (let z : ◌≡◌ {A = ℕ} 0 1 = cc in omega arith);
    code_one = λ b c e. cc;
    refused = λ b old c e. refl;
    accepted = λ b old s e f. let z : ◌≡◌ {A = ℕ} 0 1 = cc in omega arith;
    unsized = λ b old r w e h. absurd (let z : ◌≡◌ {A = ℕ} 0 1 = cc in omega arith);
    sized = λ b old new r w e f. absurd (let z : ◌≡◌ {A = ℕ} 0 1 = cc in omega arith);
    bytes = λ b old new bs os f. absurd (let z : ◌≡◌ {A = ℕ} 0 1 = cc in omega arith);
  }

  -- what holds of a body by the kind that is chosen
  by_choice : (P : List ℕ → Type 0) → Lawful m → Lawful n → ((b : List ℕ) (k : Meaning) → Lawful k → Chosen b k (drop 1 b) → P b) → (b : List ℕ) → P b
  by_choice P lm ln h b = elim (cases_Bool (slice_index b 0 == 1)) [
    | inl one ↦ h b m lm (first b one)
    | inr other ↦ elim (cases_Bool (slice_index b 0 == 2)) [
      | inl two ↦ h b n ln (second b other two)
      | inr none ↦ h b nothing nothing_lawful (neither b other none)
    ]
  ]

  wider : (k : ℕ) (r w : ℕ) → k ≤ 4 → Scoped k r w → Scoped 4 r w
  wider k r w l s = record { reads_pages = s.reads_pages; writes_pages = s.writes_pages; reads_few = omega arith; writes_few = omega arith; writes_some = s.writes_some }

  pub pair_lawful : Lawful m → Lawful n → Lawful (pair_meaning m n)
  pair_lawful lm ln = record {
    limit_from = omega arith;
    limit_to = omega arith;
    scoped = λ b r w. by_choice (λ b. (pair_meaning m n).scope b ≡ Ok (r, w) → Scoped 4 r w) lm ln (λ b k l c e. wider k.limit r w l.limit_to (l.scoped (drop 1 b) r w (sym c.by_scope ∙ e))) b;
    code_one = λ b x. by_choice (λ b. (pair_meaning m n).scope b ≡ Err x → x ≡ 1) lm ln (λ b k l c e. l.code_one (drop 1 b) x (sym c.by_scope ∙ e)) b;
    refused = λ b old x. by_choice (λ b. (pair_meaning m n).scope b ≡ Err x → (pair_meaning m n).effect b old ≡ Err 1) lm ln (λ b k l c e. c.by_effect old ∙ l.refused (drop 1 b) old x (sym c.by_scope ∙ e)) b;
    accepted = λ b old s. by_choice (λ b. (pair_meaning m n).scope b ≡ Ok s → (pair_meaning m n).effect b old ≢ Err 1) lm ln (λ b k l c e f. l.accepted (drop 1 b) old s (sym c.by_scope ∙ e) (sym (c.by_effect old) ∙ f)) b;
    unsized = λ b old r w. by_choice (λ b. (pair_meaning m n).scope b ≡ Ok (r, w) → (length old ≢ 224 * size r) → (pair_meaning m n).effect b old ≡ Err 2) lm ln (λ b k l c e h. c.by_effect old ∙ l.unsized (drop 1 b) old r w (sym c.by_scope ∙ e) h) b;
    sized = λ b old new r w. by_choice (λ b. (pair_meaning m n).scope b ≡ Ok (r, w) → (pair_meaning m n).effect b old ≡ Ok new → length new ≡ 224 * size w) lm ln (λ b k l c e f. l.sized (drop 1 b) old new r w (sym c.by_scope ∙ e) (sym (c.by_effect old) ∙ f)) b;
    bytes = λ b old new. by_choice (λ b. Bytes b → Bytes old → (pair_meaning m n).effect b old ≡ Ok new → Bytes new) lm ln (λ b k l c bs os f. l.bytes (drop 1 b) old new (All-drop (λ x. x < 256) 1 b bs) os (sym (c.by_effect old) ∙ f)) b;
  }

  -- the calls of the pair
  pub pair_first : (b old : List ℕ) (k : ℕ) → slice_index b 0 ≡ 1 → ((pair_meaning m n).scope b ≡ m.scope (drop 1 b)) × (reply (pair_meaning m n) b old k ≡ reply m (drop 1 b) old k)
  unfolding reply
  pair_first b old k e = let c = first b (eq-eqb (slice_index b 0) 1 e) in (c.by_scope, (λ i. within (c.by_scope i) (length old) k (c.by_effect old i)))

  pub pair_second : (b old : List ℕ) (k : ℕ) → slice_index b 0 ≡ 2 → ((pair_meaning m n).scope b ≡ n.scope (drop 1 b)) × (reply (pair_meaning m n) b old k ≡ reply n (drop 1 b) old k)
  unfolding reply
  pair_second b old k e =
      let c = second b (ne_eqb (slice_index b 0) 1 (λ h. omega arith)) (eq-eqb (slice_index b 0) 2 e) in
      (c.by_scope, (λ i. within (c.by_scope i) (length old) k (c.by_effect old i)))

  pub pair_neither : (b old : List ℕ) (k : ℕ) → (slice_index b 0 ≢ 1) → (slice_index b 0 ≢ 2) → ((pair_meaning m n).scope b ≡ Err 1) × (reply (pair_meaning m n) b old k ≡ Err 1)
  unfolding reply nothing
  pair_neither b old k e h =
      let c = neither b (ne_eqb (slice_index b 0) 1 e) (ne_eqb (slice_index b 0) 2 h) in
      (c.by_scope, (λ i. within (c.by_scope i) (length old) k (c.by_effect old i)))
