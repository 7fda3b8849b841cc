-- A group that has none directly before it can be installed, and the rest of the graph stays.
use Rattle.std.proofs.Common.{◌≡◌, ℕ, ◌<◌, ◌≤◌, Bool, true, false, not, ◌&&◌, ◌||◌, ltb, leb, ◌⊎◌, sym, refl, ap, ◌∙◌, subst, inl, inr, arith}
use Rattle.std.proofs.lemmas.Bool.{false_from_ne_true, true_from_ne_false, both_ways, cond-true, cond-false, cases_Bool, and_parts, and_from, or_left, or_right, or_from, or_parts, or_cases, leb-true, ltb-true, lt-ltb, le-leb, not_from_false, not-true, not-false, and_cases, cases_order}
use Rattle.redo.specs.Histories.{page_count, Page, History, reads, writes, touches, after, image, Ran}
use Rattle.redo.specs.Prefixes.{uninstalled, Prefix, Untouched, Exposed, Recoverable, Installed}
use Rattle.redo.specs.Recovery.{some}
use Rattle.redo.specs.WriteGraph.{Operations, operations, Arrow, Reaches, one, more, SameGroup, DirectlyBefore, Ready}
use Rattle.redo.specs.Installation.{IsGroup, joined, stored_with}
use Rattle.redo.specs.Theorems.{Rest, GroupInstalls, GroupExplains, HistoryFinite}
use Rattle.redo.proofs.TestLaws.{some-from, some_at, least}
use Rattle.redo.proofs.HistoryLaws.{writes-from, reads-from, image-all, image-like}
use Rattle.redo.proofs.GraphLaws.{reach-trans, arrow-from, group-self}

-- what is not installed
pub uninstalled-from : (h : History) (I : ℕ → Bool) (n m : ℕ) → h.first ≤ m → m < n → I m ≡ false → uninstalled h I n m ≡ true
uninstalled-from h I n m f l o = and_from (leb h.first m) (ltb m n && not (I m)) (le-leb h.first m f) (and_from (ltb m n) (not (I m)) (lt-ltb m n l) (not_from_false (I m) o))

pub uninstalled-parts : (h : History) (I : ℕ → Bool) (n m : ℕ) → uninstalled h I n m ≡ true → (h.first ≤ m) × (m < n) × (I m ≡ false)
uninstalled-parts h I n m e =
    let outer = and_parts (leb h.first m) (ltb m n && not (I m)) e in
    let inner = and_parts (ltb m n) (not (I m)) outer.1 in
    (leb-true h.first m outer.0, ltb-true m n inner.0, not-true (I m) inner.1)

pub on_pages : (h : History) (n : ℕ) → Ran h n → (m p : ℕ) → m < n → writes h m p ≡ true → p < page_count
on_pages h n ran m p l wr = (ran.well_formed m (writes-from h m p wr) l).on_pages p (and_parts (leb h.first m) ((h.operation m).writes p) wr).1

pub history-finite : HistoryFinite
history-finite h I n ran = record {
  few = λ m e. (uninstalled-parts h I n m e).1;
  on_pages = λ m p e wr. on_pages h n ran m p (uninstalled-parts h I n m e).1 wr;
}

-- an arrow stays where those of its operations stay dirty
arrow-by : (h : History) (n : ℕ) (I J : ℕ → Bool) (a b : ℕ)
    → ((m : ℕ) → uninstalled h I n m ≡ true → (writes h m a ≡ true) ⊎ (writes h m b ≡ true) → uninstalled h J n m ≡ true)
    → Arrow (operations h I n) a b → Arrow (operations h J n) a b
arrow-by h n I J a b stays (inl x) =
    inl (record { op = x.op; is_dirty = stays x.op x.is_dirty (inl x.writes_a); writes_a = x.writes_a; writes_b = x.writes_b })
arrow-by h n I J a b stays (inr x) = inr (record {
  O = x.O;
  P = x.P;
  page = x.page;
  o_dirty = stays x.O x.o_dirty (inl x.writes_a);
  p_dirty = stays x.P x.p_dirty (inr x.writes_b);
  earlier = x.earlier;
  writes_a = x.writes_a;
  writes_b = x.writes_b;
  o_reads = x.o_reads;
  p_writes = x.p_writes;
})

module _ (h : History) (I : ℕ → Bool) (n : ℕ) (p : ℕ) (G : ℕ → Bool) (ran : Ran h n) (ready : Ready (operations h I n) p) (is-group : IsGroup (operations h I n) p G) where
  abbrev d : Operations
  d = operations h I n

  abbrev J : ℕ → Bool
  J = joined h I n G

  abbrev e : Operations
  e = operations h J n

  abbrev into : ℕ → Bool
  into m = some page_count (λ q. writes h m q && G q)

  -- an operation that writes a page of the group writes no other pages
  whole : (m a b : ℕ) → uninstalled h I n m ≡ true → writes h m a ≡ true → writes h m b ≡ true → G a ≡ true → G b ≡ true
  whole m a b dirty wa wb g =
      let s = (is-group a).0 g in
      (is-group b).1 (
        more (inl (record { op = m; is_dirty = dirty; writes_a = wb; writes_b = wa })) s.0,
        reach-trans d s.1 (one (inl (record { op = m; is_dirty = dirty; writes_a = wa; writes_b = wb }))),
      )

  -- no arrow leads into the group from outside
  closed : (a b : ℕ) → Arrow d a b → G b ≡ true → G a ≡ true
  closed a b ar g = true_from_ne_false (G a) (λ out. ready.none_before a (record {
    from = a;
    to = b;
    from_group = group-self d a (arrow-from d a b ar);
    arrow = ar;
    to_group = (is-group b).0 g;
    apart = λ s. both_ways (G a) out ((is-group a).1 s);
  }))

  leaves : (a b : ℕ) → Arrow d a b → G a ≡ false → G b ≡ false
  leaves a b ar out = false_from_ne_true (G b) (λ g. both_ways (G a) out (closed a b ar g))

  joins : (m q : ℕ) → uninstalled h I n m ≡ true → writes h m q ≡ true → G q ≡ true → J m ≡ true
  joins m q dirty wr g =
      or_right (I m) (uninstalled h I n m && into m)
      (and_from (uninstalled h I n m) (into m) dirty
      (some-from page_count (λ q. writes h m q && G q) q (on_pages h n ran m q (uninstalled-parts h I n m dirty).1 wr) (and_from (writes h m q) (G q) wr g)))

  joined-writes : (m q : ℕ) → (uninstalled h I n m && into m) ≡ true → writes h m q ≡ true → G q ≡ true
  joined-writes m q new wr =
      let both = and_parts (uninstalled h I n m) (into m) new in
      let k = some_at page_count (λ q. writes h m q && G q) both.1 in
      let at-k = and_parts (writes h m k.0) (G k.0) k.2 in
      whole m k.0 q both.0 at-k.0 wr at-k.1

  -- what is still dirty
  was-dirty : (m : ℕ) → uninstalled h J n m ≡ true → uninstalled h I n m ≡ true
  was-dirty m x =
      let u = uninstalled-parts h J n m x in
      uninstalled-from h I n m u.0 u.1 (or_parts (I m) (uninstalled h I n m && into m) u.2).0

  was-outside : (m q : ℕ) → uninstalled h J n m ≡ true → writes h m q ≡ true → G q ≡ false
  was-outside m q x wr = false_from_ne_true (G q) (λ g. both_ways (J m) (uninstalled-parts h J n m x).2 (joins m q (was-dirty m x) wr g))

  still_dirty : (m q : ℕ) → uninstalled h I n m ≡ true → writes h m q ≡ true → G q ≡ false → uninstalled h J n m ≡ true
  still_dirty m q dirty wr out =
      let u = uninstalled-parts h I n m dirty in
      uninstalled-from h J n m u.0 u.1 (or_from (I m) (uninstalled h I n m && into m) u.2
      (false_from_ne_true (uninstalled h I n m && into m) (λ new. both_ways (G q) out (joined-writes m q new wr))))

  arrow-keeps : (a b : ℕ) → Arrow d a b → G a ≡ false → Arrow e a b
  arrow-keeps a b ar out = arrow-by h n I J a b (λ m dirty wr. elim wr [
    | inl wa ↦ still_dirty m a dirty wa out
    | inr wb ↦ still_dirty m b dirty wb (leaves a b ar out)
  ]) ar

  arrow-was : (a b : ℕ) → Arrow e a b → Arrow d a b
  arrow-was a b ar = arrow-by h n J I a b (λ m dirty wr. was-dirty m dirty) ar

  arrow-out : (a b : ℕ) → Arrow e a b → G a ≡ false
  arrow-out a b ar = let x = arrow-from e a b ar in was-outside x.0 a x.1 x.2

  reach-keeps : {a b : ℕ} → Reaches d a b → G a ≡ false → Reaches e a b × (G b ≡ false)
  reach-keeps (one {a = a} {b = b} ar) out = (one (arrow-keeps a b ar out), leaves a b ar out)
  reach-keeps (more {a = a} {b = b} ar s) out = let r = reach-keeps s (leaves a b ar out) in (more (arrow-keeps a b ar out) r.0, r.1)

  reach-was : {a b : ℕ} → Reaches e a b → Reaches d a b
  reach-was (one {a = a} {b = b} ar) = one (arrow-was a b ar)
  reach-was (more {a = a} {b = b} ar s) = more (arrow-was a b ar) (reach-was s)

  reach-out : {a b : ℕ} → Reaches e a b → G a ≡ false
  reach-out (one {a = a} {b = b} ar) = arrow-out a b ar
  reach-out (more {a = a} {b = b} ar s) = arrow-out a b ar

  group-keeps : (a b : ℕ) → SameGroup d a b → G a ≡ false → SameGroup e a b
  group-keeps a b s out = let r = reach-keeps s.0 out in (r.0, (reach-keeps s.1 r.1).0)

  group-was : (a b : ℕ) → SameGroup e a b → SameGroup d a b
  group-was a b s = (reach-was s.0, reach-was s.1)

  order-keeps : (a b : ℕ) → DirectlyBefore d a b → G a ≡ false → DirectlyBefore e a b
  order-keeps a b x out =
      let from_out = (reach-keeps x.from_group.0 out).1 in
      let to_out = leaves x.from x.to x.arrow from_out in
      record {
        from = x.from;
        to = x.to;
        from_group = group-keeps a x.from x.from_group out;
        arrow = arrow-keeps x.from x.to x.arrow from_out;
        to_group = group-keeps x.to b x.to_group to_out;
        apart = λ s. x.apart (group-was a b s);
      }

  order-was : (a b : ℕ) → DirectlyBefore e a b → DirectlyBefore d a b
  order-was a b x = record {
    from = x.from;
    to = x.to;
    from_group = group-was a x.from x.from_group;
    arrow = arrow-was x.from x.to x.arrow;
    to_group = group-was x.to b x.to_group;
    apart = λ s. x.apart (group-keeps a b s (reach-out x.from_group.0));
  }

  pub rest : Rest d e G
  rest = record {
    dirty = λ q. (λ x. ((x.0, was-dirty x.0 x.1, x.2), was-outside x.0 q x.1 x.2), λ x. (x.0.0, still_dirty x.0.0 q x.0.1 x.0.2 x.1, x.0.2));
    groups = λ a b. (λ s. (group-was a b s, reach-out s.0), λ x. group-keeps a b x.0 x.1);
    order = λ a b. (λ s. (order-was a b s, reach-out s.from_group.0), λ x. order-keeps a b x.0 x.1);
  }

  new-brings : (O P x : ℕ) → O < P → P < n → (uninstalled h I n P && into P) ≡ true → writes h P x ≡ true → touches h O x ≡ true → I O ≡ false → J O ≡ true
  new-brings O P x l pn new wr t out =
      let g = joined-writes P x new wr in
      let dirty-P = (and_parts (uninstalled h I n P) (into P) new).0 in
      elim (or_cases (reads h O x) (writes h O x) t) [
        | inl rd ↦
            let f = reads-from h O x rd in
            let dirty-O = uninstalled-from h I n O f (omega arith) out in
            let a = (ran.well_formed O f (omega arith)).writes_some in
            let wa : writes h O a.0 ≡ true = and_from (leb h.first O) ((h.operation O).writes a.0) (le-leb h.first O f) a.1 in
            joins O a.0 dirty-O wa (closed a.0 x (inr (record {
              O = O;
              P = P;
              page = x;
              o_dirty = dirty-O;
              p_dirty = dirty-P;
              earlier = l;
              writes_a = wa;
              writes_b = wr;
              o_reads = rd;
              p_writes = wr;
            })) g)
        | inr wo ↦ joins O x (uninstalled-from h I n O (writes-from h O x wo) (omega arith) out) wo g
      ]

  brings : Prefix h I n → Prefix h J n
  brings pre O P x l pn j wr t = elim (or_cases (I P) (uninstalled h I n P && into P) j) [
    | inl i ↦ or_left (I O) (uninstalled h I n O && into O) (pre O P x l pn i wr t)
    | inr new ↦ elim (cases_Bool (I O)) [
      | inl i ↦ or_left (I O) (uninstalled h I n O && into O) i
      | inr out ↦ new-brings O P x l pn new wr t out
    ]
  ]

  all_in : (q : ℕ) → G q ≡ true → (m : ℕ) → m < n → writes h m q ≡ true → J m ≡ true
  all_in q g m l wr = elim (cases_Bool (I m)) [
    | inl i ↦ or_left (I m) (uninstalled h I n m && into m) i
    | inr out ↦ joins m q (uninstalled-from h I n m (writes-from h m q wr) l out) wr g
  ]

  none-new : (q : ℕ) → G q ≡ false → (m : ℕ) → m < n → writes h m q ≡ true → I m ≡ J m
  none-new q out m l wr = elim (cases_Bool (uninstalled h I n m && into m)) [
    | inl new ↦ absurd (both_ways (G q) out (joined-writes m q new wr))
    | inr o ↦ same (I m) (uninstalled h I n m && into m) o
  ]
    where
      same : (a b : Bool) → b ≡ false → a ≡ (a || b)
      same true b o = refl
      same false b o = sym o

  -- what is stored at a page of the group, and at another
  stored-in : (w : ℕ → Page) (q : ℕ) → G q ≡ true → stored_with h n G w q ≡ image h J n q
  stored-in w q g = cond-true (G q) (after h n q) (w q) g ∙ sym (image-all h J n q (all_in q g))

  stored-out : (w : ℕ → Page) (q : ℕ) → G q ≡ false → stored_with h n G w q ≡ w q
  stored-out w q out = cond-false (G q) (after h n q) (w q) out

  pub keeps : (w : ℕ → Page) → Installed h I n w → Installed h J n (stored_with h n G w)
  keeps w kept = record { were_run = run_at; is_prefix = brings kept.is_prefix; images = λ q. image-at q (G q) refl }
    where
      run_at : (m : ℕ) → J m ≡ true → m < n
      run_at m j = elim (or_cases (I m) (uninstalled h I n m && into m) j) [
        | inl i ↦ kept.were_run m i
        | inr new ↦ (uninstalled-parts h I n m (and_parts (uninstalled h I n m) (into m) new).0).1
      ]

      image-at : (q : ℕ) (b : Bool) → G q ≡ b → stored_with h n G w q ≡ image h J n q
      image-at q true g = stored-in w q g
      image-at q false out = stored-out w q out ∙ kept.images q ∙ image-like h I J n q (none-new q out)

  -- a page outside the group that is exposed now was exposed before
  was-exposed : (q : ℕ) → G q ≡ false → Exposed h J n q → Exposed h I n q
  was-exposed q out ex = go (least (λ m. not (I m) && touches h m q) n)
    where
      outside-both : (m : ℕ) → J m ≡ false → I m ≡ false
      outside-both m o = (or_parts (I m) (uninstalled h I n m && into m) o).0

      quiet : (j : ℕ) → ((k : ℕ) → k < j → (not (I k) && touches h k q) ≡ false) → Untouched h I j q
      quiet j none k l o = elim (and_cases (not (I k)) (touches h k q) (none k l)) [
        | inl i ↦ absurd (both_ways (I k) o (not-false (I k) i))
        | inr t ↦ t
      ]

      -- the first operation outside I that touches the page writes it, so it is outside J as well
      blind : (m : ℕ) → m < n → I m ≡ false → reads h m q ≡ false → writes h m q ≡ true → ((k : ℕ) → k < m → (not (I k) && touches h k q) ≡ false) → Exposed h J n q → ⊥
      blind m l o unread wr none (inl untouched) = both_ways (touches h m q) (untouched m l (sym (none-new q out m l wr) ∙ o)) (or_right (reads h m q) (writes h m q) wr)
      blind m l o unread wr none (inr x) = elim (cases_order x.op m) [
        | inl same ↦ both_ways (reads h m q) unread (subst (λ (k : ℕ). reads h k q ≡ true) same x.reads_it)
        | inr (inl lt) ↦
            both_ways (touches h x.op q) (quiet m none x.op lt (outside-both x.op x.outside)) (or_left (reads h x.op q) (writes h x.op q) x.reads_it)
        | inr (inr gt) ↦
            both_ways (touches h m q) (x.none_earlier m gt (sym (none-new q out m l wr) ∙ o)) (or_right (reads h m q) (writes h m q) wr)
      ]

      at : (m : ℕ) → m < n → (not (I m) && touches h m q) ≡ true → ((k : ℕ) → k < m → (not (I k) && touches h k q) ≡ false) → (b : Bool) → reads h m q ≡ b → Exposed h I n q
      at m l hit none true rd =
          inr (record { op = m; below = l; outside = not-true (I m) (and_parts (not (I m)) (touches h m q) hit).0; reads_it = rd; none_earlier = quiet m none })
      at m l hit none false unread =
          let u = and_parts (not (I m)) (touches h m q) hit in
          elim (or_cases (reads h m q) (writes h m q) u.1) [
            | inl rd ↦ absurd (both_ways (reads h m q) unread rd)
            | inr wr ↦ absurd (blind m l (not-true (I m) u.0) unread wr none ex)
          ]

      go : ((k : ℕ) → k < n → (not (I k) && touches h k q) ≡ false) ⊎ ((m : ℕ) × (m < n) × ((not (I m) && touches h m q) ≡ true) × ((k : ℕ) → k < m → (not (I k) && touches h k q) ≡ false)) → Exposed h I n q
      go (inl none) = inl (quiet n none)
      go (inr (m, l, hit, none)) = at m l hit none (reads h m q) refl

  pub explains-still : (w : ℕ → Page) → Recoverable h I n w → Recoverable h J n (stored_with h n G w)
  explains-still w rec = record { is_prefix = brings rec.is_prefix; explains = λ q ex. contents-at q ex (G q) refl; numbered = λ q. number_at q (G q) refl }
    where
      contents-at : (q : ℕ) → Exposed h J n q → (b : Bool) → G q ≡ b → (stored_with h n G w q).contents ≡ (image h J n q).contents
      contents-at q ex true g = ap (λ (x : Page). x.contents) (stored-in w q g)
      contents-at q ex false out =
          ap (λ (x : Page). x.contents) (stored-out w q out)
          ∙ rec.explains q (was-exposed q out ex)
          ∙ ap (λ (x : Page). x.contents) (image-like h I J n q (none-new q out))

      number_at : (q : ℕ) (b : Bool) → G q ≡ b → (stored_with h n G w q).number ≡ (image h J n q).number
      number_at q true g = ap (λ (x : Page). x.number) (stored-in w q g)
      number_at q false out =
          ap (λ (x : Page). x.number) (stored-out w q out)
          ∙ rec.numbered q
          ∙ ap (λ (x : Page). x.number) (image-like h I J n q (none-new q out))

pub joined-dirty : (a b i t : Bool) → (a && (b && not (i || ((a && (b && not i)) && t)))) ≡ ((a && (b && not i)) && not t)
joined-dirty false b i t = refl
joined-dirty true false i t = refl
joined-dirty true true true t = refl
joined-dirty true true false true = refl
joined-dirty true true false false = refl

pub group-installs : GroupInstalls
group-installs h I n w p G ran kept ready is-group = record {
  installed = keeps h I n p G ran ready is-group w kept;
  rest = rest h I n p G ran ready is-group;
  still_dirty = λ m. joined-dirty (leb h.first m) (ltb m n) (I m) (some page_count (λ q. writes h m q && G q));
}

pub group-explains : GroupExplains
group-explains h I n w p G ran rec ready is-group = explains-still h I n p G ran ready is-group w rec
