-- Arrows, reach, groups and order can be decided, where the dirty operations are among the first n and the pages that they write are listed.
use Rattle.std.proofs.Common.{◌≡◌, ℕ, ◌<◌, Bool, true, false, not, ◌&&◌, ◌||◌, eqb, ltb, List, [], ◌∷◌, Decides, refl, inl, inr}
use Rattle.std.proofs.lemmas.Bool.{both_ways, false_from_ne_true, and_parts, and_from, or_cases, or_left, or_right, eqb-true, ltb-true, lt-ltb, not_from_false, not-true}
use Rattle.std.proofs.lemmas.Bool.Decides.{Decides-and}
use Rattle.redo.specs.Recovery.{some}
use Rattle.redo.specs.WriteGraph.{Operations, Arrow, Reaches, Dirty, SameGroup, DirectlyBefore}
use Rattle.redo.proofs.TestLaws.{some-from, some_at}
use Rattle.redo.proofs.GraphLaws.{reach-to, arrow-to}
use Rattle.redo.specs.Situations.{listed}
use Rattle.redo.proofs.ClosureLaws.{via-decides}
use Rattle.redo.specs.Closure.{via}

-- whether a test holds of some page of a list
unfoldable pub some_of : List ℕ → (ℕ → Bool) → Bool
some_of [] f = false
some_of (q ∷ qs) f = f q || some_of qs f

some-of_from : (qs : List ℕ) (f : ℕ → Bool) (p : ℕ) → listed qs p ≡ true → f p ≡ true → some_of qs f ≡ true
unfolding some_of listed
some-of_from [] f p l e = absurd (both_ways false refl l)
some-of_from (q ∷ qs) f p l e = elim (or_cases (eqb p q) (listed qs p) l) [
  | inl same ↦ or_left (f q) (some_of qs f) (rw (eqb-true p q same) at e)
  | inr below ↦ or_right (f q) (some_of qs f) (some-of_from qs f p below e)
]

some-of_at : (qs : List ℕ) (f : ℕ → Bool) → some_of qs f ≡ true → (p : ℕ) × (f p ≡ true)
unfolding some_of
some-of_at [] f e = absurd (both_ways false refl e)
some-of_at (q ∷ qs) f e = elim (or_cases (f q) (some_of qs f) e) [ inl here ↦ (q, here) | inr below ↦ some-of_at qs f below ]

-- the test for arrows among the first n operations
module _ (d : Operations) (n : ℕ) (ks : List ℕ) where
  abbrev both-test : ℕ → ℕ → ℕ → Bool
  both-test a b m = d.dirty m && (d.writes m a && d.writes m b)

  abbrev page-test : ℕ → ℕ → ℕ → Bool
  page-test O P x = d.reads O x && d.writes P x

  abbrev pair_test : ℕ → ℕ → ℕ → ℕ → Bool
  pair_test a b O P = (d.dirty O && d.dirty P) && (ltb (d.number O) (d.number P) && ((d.writes O a && d.writes P b) && some_of ks (page-test O P)))

  abbrev pub arrow-test : ℕ → ℕ → Bool
  arrow-test a b = some n (both-test a b) || some n (λ O. some n (pair_test a b O))

  -- the tests for reach, groups and order
  abbrev pub reach-test : ℕ → ℕ → Bool
  reach-test a b = via arrow-test ks a b

  abbrev pub group-test : ℕ → ℕ → Bool
  group-test a b = reach-test a b && reach-test b a

  abbrev link_test : ℕ → ℕ → ℕ → Bool
  link_test x b y = arrow-test x y && group-test y b

  abbrev step-test : ℕ → ℕ → ℕ → Bool
  step-test a b x = group-test a x && some_of ks (link_test x b)

  abbrev pub order-test : ℕ → ℕ → Bool
  order-test a b = not (group-test a b) && some_of ks (step-test a b)

  module _ (few : (m : ℕ) → d.dirty m ≡ true → m < n) (inside : (m p : ℕ) → d.dirty m ≡ true → d.writes m p ≡ true → listed ks p ≡ true) where
    arrow-sound : (a b : ℕ) → arrow-test a b ≡ true → Arrow d a b
    arrow-sound a b e = elim (or_cases (some n (both-test a b)) (some n (λ O. some n (pair_test a b O))) e) [
      | inl x ↦
          let m = some_at n (both-test a b) x in
          let u = and_parts (d.dirty m.0) (d.writes m.0 a && d.writes m.0 b) m.2 in
          let v = and_parts (d.writes m.0 a) (d.writes m.0 b) u.1 in
          inl (record { op = m.0; is_dirty = u.0; writes_a = v.0; writes_b = v.1 })
      | inr x ↦
          let O = some_at n (λ O. some n (pair_test a b O)) x in
          let P = some_at n (pair_test a b O.0) O.2 in
          let u = and_parts (d.dirty O.0 && d.dirty P.0) (ltb (d.number O.0) (d.number P.0) && ((d.writes O.0 a && d.writes P.0 b) && some_of ks (page-test O.0 P.0))) P.2 in
          let dirty = and_parts (d.dirty O.0) (d.dirty P.0) u.0 in
          let v = and_parts (ltb (d.number O.0) (d.number P.0)) ((d.writes O.0 a && d.writes P.0 b) && some_of ks (page-test O.0 P.0)) u.1 in
          let y = and_parts (d.writes O.0 a && d.writes P.0 b) (some_of ks (page-test O.0 P.0)) v.1 in
          let ends = and_parts (d.writes O.0 a) (d.writes P.0 b) y.0 in
          let x = some-of_at ks (page-test O.0 P.0) y.1 in
          let both = and_parts (d.reads O.0 x.0) (d.writes P.0 x.0) x.1 in
          inr (record {
            O = O.0;
            P = P.0;
            page = x.0;
            o_dirty = dirty.0;
            p_dirty = dirty.1;
            earlier = ltb-true (d.number O.0) (d.number P.0) v.0;
            writes_a = ends.0;
            writes_b = ends.1;
            o_reads = both.0;
            p_writes = both.1;
          })
    ]

    arrow-complete : (a b : ℕ) → Arrow d a b → arrow-test a b ≡ true
    arrow-complete a b (inl x) =
        or_left (some n (both-test a b)) (some n (λ O. some n (pair_test a b O)))
        (some-from n (both-test a b) x.op (few x.op x.is_dirty)
        (and_from (d.dirty x.op) (d.writes x.op a && d.writes x.op b) x.is_dirty
        (and_from (d.writes x.op a) (d.writes x.op b) x.writes_a x.writes_b)))
    arrow-complete a b (inr x) =
        or_right (some n (both-test a b)) (some n (λ O. some n (pair_test a b O)))
        (some-from n (λ O. some n (pair_test a b O)) x.O (few x.O x.o_dirty)
        (some-from n (pair_test a b x.O) x.P (few x.P x.p_dirty)
        (and_from (d.dirty x.O && d.dirty x.P) (ltb (d.number x.O) (d.number x.P) && ((d.writes x.O a && d.writes x.P b) && some_of ks (page-test x.O x.P)))
        (and_from (d.dirty x.O) (d.dirty x.P) x.o_dirty x.p_dirty)
        (and_from (ltb (d.number x.O) (d.number x.P)) ((d.writes x.O a && d.writes x.P b) && some_of ks (page-test x.O x.P))
        (lt-ltb (d.number x.O) (d.number x.P) x.earlier)
        (and_from (d.writes x.O a && d.writes x.P b) (some_of ks (page-test x.O x.P))
        (and_from (d.writes x.O a) (d.writes x.P b) x.writes_a x.writes_b)
        (some-of_from ks (page-test x.O x.P) x.page (inside x.P x.page x.p_dirty x.p_writes)
        (and_from (d.reads x.O x.page) (d.writes x.P x.page) x.o_reads x.p_writes)))))))

    pub arrow-decides : (a b : ℕ) → Decides (arrow-test a b) (Arrow d a b)
    arrow-decides a b = (arrow-sound a b, arrow-complete a b)

    pub dirty-listed : (p : ℕ) → Dirty d p → listed ks p ≡ true
    dirty-listed p (m, dirty, wr) = inside m p dirty wr

    pub reach-decides : (a b : ℕ) → Decides (reach-test a b) (Reaches d a b)
    reach-decides = via-decides d arrow-test arrow-decides ks (λ a b ar. dirty-listed b (arrow-to d a b ar))

    pub group-decides : (a b : ℕ) → Decides (group-test a b) (SameGroup d a b)
    group-decides a b = Decides-and (reach-test a b) (reach-test b a) (reach-decides a b) (reach-decides b a)

    pub order-decides : (a b : ℕ) → Decides (order-test a b) (DirectlyBefore d a b)
    order-decides a b = (sound, complete)
      where
        sound : order-test a b ≡ true → DirectlyBefore d a b
        sound e =
            let u = and_parts (not (group-test a b)) (some_of ks (step-test a b)) e in
            let x = some-of_at ks (step-test a b) u.1 in
            let v = and_parts (group-test a x.0) (some_of ks (link_test x.0 b)) x.1 in
            let y = some-of_at ks (link_test x.0 b) v.1 in
            let z = and_parts (arrow-test x.0 y.0) (group-test y.0 b) y.1 in
            record {
              from = x.0;
              to = y.0;
              from_group = (group-decides a x.0).0 v.0;
              arrow = (arrow-decides x.0 y.0).0 z.0;
              to_group = (group-decides y.0 b).0 z.1;
              apart = λ s. both_ways (group-test a b) (not-true (group-test a b) u.0) ((group-decides a b).1 s);
            }

        complete : DirectlyBefore d a b → order-test a b ≡ true
        complete x =
            and_from (not (group-test a b)) (some_of ks (step-test a b))
            (not_from_false (group-test a b) (false_from_ne_true (group-test a b) (λ s. x.apart ((group-decides a b).0 s))))
            (some-of_from ks (step-test a b) x.from (dirty-listed x.from (reach-to d x.from_group.0))
            (and_from (group-test a x.from) (some_of ks (link_test x.from b)) ((group-decides a x.from).1 x.from_group)
            (some-of_from ks (link_test x.from b) x.to (dirty-listed x.to (arrow-to d x.from x.to x.arrow))
            (and_from (arrow-test x.from x.to) (group-test x.to b) ((arrow-decides x.from x.to).1 x.arrow) ((group-decides x.to b).1 x.to_group)))))
