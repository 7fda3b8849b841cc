-- The plans of the two stores: at every point all pages are old, or the set's pages are all new.
use Rattle.std.proofs.Common.{◌≡◌, ℕ, zero, suc, ◌+◌, ◌^◌, ◌<◌, ◌≤◌, Bool, true, false, cond, not, eqb, ◌⊎◌, List, [], ◌∷◌, ◌++◌, map, length, set, Some, None, Option, sym, refl, ap, ◌∙◌, subst, ap₂, inl, inr, add-one, arith}
use mathlib.Core.Path.{fun_ext}
use lib.Bits.{bit_xor, xor_lt}
use Rattle.std.proofs.lemmas.List.{length-set, get_or-set_same, map-append, append-nil, append_assoc}
use Rattle.std.proofs.ByRecursion.{All-map, All-weaker}
use Rattle.std.proofs.lemmas.Bool.{cases_lt, cases_eq, both_ways, cond-true, cond-false, eq-eqb, ne_eqb}
use Rattle.sets.specs.Sets.{has, differs, rising, pages}
use Rattle.sets.proofs.SetLaws.{has_above, has-none, has-xor, rising_none, rising-more, rising-all}
use Rattle.faults.specs.Faults.{Report}
use Rattle.media.specs.Media.{Device, block_at}
use Rattle.media.specs.Plans.Ran.{done}
use Rattle.media.specs.Plans.{Write, Ran, put, puts, Fitting, Throughout}
use Rattle.media.proofs.PlanLaws.{ran_then, ran_refused, ran-keeps, throughout-append, throughout-last, throughout-weaker, puts-append, length-puts, fitting-append, atomic}
use Rattle.stores.specs.Images.{image_of, pictured}
use Rattle.stores.specs.Layout.{block_in, set_in, block_of_set, slot, page_in}
use Rattle.stores.specs.Stores.{installed}
use Rattle.stores.specs.Plans.{image_write, of_page, image_writes, set_write, every_page, settle_writes, journal_writes, shadow_writes, blocks_in, journal_plan, shadow_plan}
use Rattle.stores.proofs.LayoutLaws.{image-length, image-again, picture_length, picture_again, slot-below, slot_same, slot-upper, slot-lower, slot-like, set-length, put-set, block-other, page-at, page-none, pages-same, put-spare, every}

-- ---- images of some pages, page by page

module _ (u s : ℕ) (f : ℕ → List ℕ) where
  -- the writes of the pages below n
  abbrev pub up_to : ℕ → List Write
  up_to n = map (image_write u f) (rising (has s) n)

  pub up_to-more : (n : ℕ) → up_to (n + 1) ≡ up_to n ++ of_page u s f n
  up_to-more n = ap (map (image_write u f)) (rising-more (has s) n) ∙ map-append (image_write u f) (rising (has s) n) (cond (has s n) (n ∷ []) []) ∙ ap (λ x. up_to n ++ x) (out (has s n))
    where
      out : (t : Bool) → map (image_write u f) (cond t (n ∷ []) []) ≡ cond t (image_write u f n ∷ []) []
      out true = refl
      out false = refl

  pub up_to-none : up_to 0 ≡ []
  up_to-none = ap (map (image_write u f)) (rising_none (has s))

  up_to-suc : (n : ℕ) → up_to (suc n) ≡ up_to n ++ of_page u s f n
  up_to-suc n = ap up_to (sym (add-one n)) ∙ up_to-more n

  -- some writes more, up to the last page
  pub up_to-rest : (n k : ℕ) → n ≤ k → (vs : List Write) × (up_to k ≡ up_to n ++ vs)
  up_to-rest n zero h = ([], (let z : n ≡ 0 = omega arith in ap up_to (sym z) ∙ sym (append-nil (up_to n))))
  up_to-rest n (suc k) h = elim (cases_lt n (suc k)) [
    | inl l ↦ let ih = up_to-rest n k (omega arith) in (ih.0 ++ of_page u s f k, up_to-suc k ∙ ap (λ x. x ++ of_page u s f k) ih.1 ∙ append_assoc (up_to n) ih.0 (of_page u s f k))
    | inr g ↦ let z : n ≡ suc k = omega arith in ([], ap up_to (sym z) ∙ sym (append-nil (up_to n)))
  ]

  up_to-fits : (k n : ℕ) → 128 ≤ k → n ≤ 64 → ((p : ℕ) → p < 64 → has s p ≡ true → length (f p) ≡ 256) → Fitting k (up_to n)
  unfolding Fitting
  up_to-fits k zero room h long = subst (Fitting k) (sym up_to-none) tt
  up_to-fits k (suc n) room h long =
      subst (Fitting k) (sym (up_to-suc n)) (fitting-append k (up_to n) (of_page u s f n) (up_to-fits k n room (omega arith) long) (here (has s n) refl))
    where
      here : (t : Bool) → has s n ≡ t → Fitting k (cond t (image_write u f n ∷ []) [])
      here true e = ((omega (arith, slot-below u n (omega arith)), long n (omega arith) e), tt)
      here false e = tt

  -- the run of one page
  pub page-out : (p : ℕ) (m : Device) → has s p ≡ false → Ran m (of_page u s f p) None m
  page-out p m e = subst (λ ws. Ran m ws None m) (sym (cond-false (has s p) (image_write u f p ∷ []) [] e)) done

  pub page-in : (p : ℕ) (m m' : Device) (o : Option Report) → has s p ≡ true → Ran m (image_write u f p ∷ []) o m' → Ran m (of_page u s f p) o m'
  page-in p m m' o e r = subst (λ ws. Ran m ws o m') (sym (cond-true (has s p) (image_write u f p ∷ []) [] e)) r

  -- the run of the pages below n, and of one more
  pub run_none : (m : Device) → Ran m (up_to 0) None m
  run_none m = subst (λ ws. Ran m ws None m) (sym up_to-none) done

  pub run_more : (n : ℕ) (m m₁ m' : Device) → Ran m (up_to n) None m₁ → Ran m₁ (of_page u s f n) None m' → Ran m (up_to (n + 1)) None m'
  run_more n m m₁ m' r q = subst (λ ws. Ran m ws None m') (sym (up_to-more n)) (ran_then r q)

  -- one page is refused, and with it the whole
  pub run-cut : (n : ℕ) (m m₁ m' : Device) (x : Report) → n < 64 → Ran m (up_to n) None m₁ → Ran m₁ (of_page u s f n) (Some x) m' → Ran m (up_to 64) (Some x) m'
  run-cut n m m₁ m' x l r q =
      let rest = up_to-rest (n + 1) 64 (omega arith) in
      subst (λ ws. Ran m ws (Some x) m') (sym (rest.1 ∙ ap (λ vs. vs ++ rest.0) (up_to-more n))) (ran_refused rest.0 (ran_then r q))

  -- they write slots that no page uses
  up_to-spare : (bs : List (List ℕ)) (n : ℕ) → n ≤ 64 → ((p : ℕ) → p < 64 → has s p ≡ true → has u p ≡ not (has (set_in bs) p))
      → Throughout (λ x. (page_in x ≡ page_in bs) × (set_in x ≡ set_in bs)) bs (up_to n)
  unfolding Throughout puts
  up_to-spare bs zero h spare = subst (λ ws. Throughout (λ x. (page_in x ≡ page_in bs) × (set_in x ≡ set_in bs)) bs ws) (sym up_to-none) (refl, refl)
  up_to-spare bs (suc n) h spare =
      let P : List (List ℕ) → Type 0 = λ x. (page_in x ≡ page_in bs) × (set_in x ≡ set_in bs) in
      let t = up_to-spare bs n (omega arith) spare in
      let l = throughout-last P bs (up_to n) t in
      subst (λ ws. Throughout P bs ws) (sym (up_to-suc n))
      (throughout-append P bs (up_to n) (of_page u s f n) t (here (puts bs (up_to n)) l (has s n) refl))
    where
      here : (x : List (List ℕ)) → (page_in x ≡ page_in bs) × (set_in x ≡ set_in bs) → (t : Bool) → has s n ≡ t
          → Throughout (λ x. (page_in x ≡ page_in bs) × (set_in x ≡ set_in bs)) x (cond t (image_write u f n ∷ []) [])
      here x l true e =
          let w = put-spare x u n (f n) (omega arith) (spare n (omega arith) e ∙ ap (λ c. not (has c n)) (sym l.1)) in
          (l, (w.0 ∙ l.0, w.1 ∙ l.1))
      here x l false e = l

  -- what stands in a block after them
  up_to-miss : (bs : List (List ℕ)) (n b : ℕ) → ((p : ℕ) → p < n → has s p ≡ true → b ≡ slot u p → ⊥) → block_in (puts bs (up_to n)) b ≡ block_in bs b
  unfolding puts
  up_to-miss bs zero b apart = ap (λ ws. block_in (puts bs ws) b) up_to-none
  up_to-miss bs (suc n) b apart =
      ap (λ ws. block_in (puts bs ws) b) (up_to-suc n) ∙ ap (λ x. block_in x b) (puts-append bs (up_to n) (of_page u s f n))
      ∙ here (puts bs (up_to n)) (has s n) refl ∙ up_to-miss bs n b (λ p l. apart p (omega arith))
    where
      here : (x : List (List ℕ)) (t : Bool) → has s n ≡ t → block_in (puts x (cond t (image_write u f n ∷ []) [])) b ≡ block_in x b
      here x true e = block-other x (slot u n) b (f n) (apart n (omega arith) e)
      here x false e = refl

  up_to-hit : (bs : List (List ℕ)) (n q : ℕ) → 128 ≤ length bs → n ≤ 64 → q < n → has s q ≡ true → block_in (puts bs (up_to n)) (slot u q) ≡ f q
  unfolding puts
  up_to-hit bs zero q room h l e = absurd (omega arith)
  up_to-hit bs (suc n) q room h l e =
      ap (λ ws. block_in (puts bs ws) (slot u q)) (up_to-suc n) ∙ ap (λ x. block_in x (slot u q)) (puts-append bs (up_to n) (of_page u s f n))
      ∙ elim (cases_eq q n) [
        | inl same ↦ last same
        | inr other ↦ here (puts bs (up_to n)) (has s n) refl (λ z. other (slot_same u u q n (omega arith) (omega arith) z).0) ∙ up_to-hit bs n q room (omega arith) (omega arith) e
      ]
    where
      here : (x : List (List ℕ)) (t : Bool) → has s n ≡ t → (slot u q ≡ slot u n → ⊥) → block_in (puts x (cond t (image_write u f n ∷ []) [])) (slot u q) ≡ block_in x (slot u q)
      here x true e' ne = block-other x (slot u n) (slot u q) (f n) ne
      here x false e' ne = refl

      last : q ≡ n → block_in (puts (puts bs (up_to n)) (of_page u s f n)) (slot u q) ≡ f q
      last same =
          ap (λ t. block_in (puts (puts bs (up_to n)) (cond t (image_write u f n ∷ []) [])) (slot u q)) (ap (has s) (sym same) ∙ e)
          ∙ ap (λ k. block_in (set (puts bs (up_to n)) (slot u k) (f k)) (slot u q)) (sym same)
          ∙ get_or-set_same (puts bs (up_to n)) (slot u q) (f q) [] (omega (arith, length-puts bs (up_to n), slot-below u q (omega arith)))

-- ---- copied home and cleared: what is seen of the pages stays as it is

homes : (c : ℕ) (f : ℕ → List ℕ) → List Write
homes c f = image_writes 0 c f ++ (set_write 0 ∷ [])

module _ (c : ℕ) (f : ℕ → List ℕ) (bs : List (List ℕ)) (room : 129 ≤ length bs) (marked : set_in bs ≡ c)
    (staged : (q : ℕ) → q < 64 → has c q ≡ true → image_of (f q) ≡ image_of (block_in bs (slot every_page q))) where
  homes-spare : (p : ℕ) → p < 64 → has c p ≡ true → has 0 p ≡ not (has (set_in bs) p)
  homes-spare p l e = has-none p ∙ sym (ap not (ap (λ s. has s p) marked ∙ e))

  homes-copied : Throughout (λ x. (page_in x ≡ page_in bs) × (set_in x ≡ set_in bs)) bs (image_writes 0 c f)
  homes-copied = up_to-spare 0 c f bs 64 (omega arith) homes-spare

  homes-cleared : page_in (set (puts bs (image_writes 0 c f)) 128 (block_of_set 0)) ≡ page_in bs
  homes-cleared =
      let x = puts bs (image_writes 0 c f) in
      pages-same (set x 128 (block_of_set 0)) bs (λ q l.
      page-at (set x 128 (block_of_set 0)) q l
      ∙ ap (λ s. image_of (block_in (set x 128 (block_of_set 0)) (slot s q))) (put-set x 0 (omega (arith, length-puts bs (image_writes 0 c f))) (omega arith))
      ∙ ap (λ b. image_of (block_in (set x 128 (block_of_set 0)) b)) (slot-lower 0 q (has-none q))
      ∙ ap image_of (block-other x 128 q (block_of_set 0) (omega arith))
      ∙ here q l (has c q) refl
      ∙ sym (page-at bs q l))
    where
      here : (q : ℕ) → q < 64 → (t : Bool) → has c q ≡ t → image_of (block_in (puts bs (image_writes 0 c f)) q) ≡ image_of (block_in bs (slot (set_in bs) q))
      here q l true e =
          ap (λ b. image_of (block_in (puts bs (image_writes 0 c f)) b)) (sym (slot-lower 0 q (has-none q)))
          ∙ ap image_of (up_to-hit 0 c f bs 64 q (omega arith) (omega arith) l e)
          ∙ staged q l e
          ∙ ap (λ b. image_of (block_in bs b)) (slot-upper every_page q (every q l) ∙ sym (slot-upper (set_in bs) q (ap (λ s. has s q) marked ∙ e)))
      here q l false e =
          ap image_of (up_to-miss 0 c f bs 64 q (λ p lp ep z. both_ways (has c q) e (ap (has c) (z ∙ slot-lower 0 p (has-none p)) ∙ ep)))
          ∙ ap (λ b. image_of (block_in bs b)) (sym (slot-lower (set_in bs) q (ap (λ s. has s q) marked ∙ e)))

  homes-steady : Throughout (λ x. page_in x ≡ page_in bs) bs (homes c f)
  unfolding homes Throughout
  homes-steady =
      let t = homes-copied in
      throughout-append (λ x. page_in x ≡ page_in bs) bs (image_writes 0 c f) (set_write 0 ∷ [])
      (throughout-weaker (λ x. (page_in x ≡ page_in bs) × (set_in x ≡ set_in bs)) (λ x. page_in x ≡ page_in bs) (λ x h. h.0) bs (image_writes 0 c f) t)
      ((throughout-last (λ x. (page_in x ≡ page_in bs) × (set_in x ≡ set_in bs)) bs (image_writes 0 c f) t).0, homes-cleared)

  homes-clear : set_in (puts bs (homes c f)) ≡ 0
  unfolding homes puts
  homes-clear =
      ap set_in (puts-append bs (image_writes 0 c f) (set_write 0 ∷ []))
      ∙ put-set (puts bs (image_writes 0 c f)) 0 (omega (arith, length-puts bs (image_writes 0 c f))) (omega arith)

-- ---- the write that turns old into new

module _ (set' : ℕ) (images : List ℕ) (x : List (List ℕ)) (t : ℕ) (room : 129 ≤ length x) (small : t < 2 ^ 64)
    (new : (q : ℕ) → q < 64 → has set' q ≡ true → image_of (block_in x (slot t q)) ≡ pictured images q)
    (kept : (q : ℕ) → q < 64 → has set' q ≡ false → has t q ≡ has (set_in x) q)
    (within : set' < 2 ^ 64) where
  turned : page_in (set x 128 (block_of_set t)) ≡ installed set' images (page_in x)
  turned = fun_ext (λ q. elim (cases_lt q 64) [ inl l ↦ low q l (has set' q) refl | inr over ↦ high q over ])
    where
      low : (q : ℕ) → q < 64 → (b : Bool) → has set' q ≡ b → page_in (set x 128 (block_of_set t)) q ≡ installed set' images (page_in x) q
      low q l b e =
          page-at (set x 128 (block_of_set t)) q l
          ∙ ap (λ s. image_of (block_in (set x 128 (block_of_set t)) (slot s q))) (put-set x t (omega arith) small)
          ∙ ap image_of (block-other x 128 (slot t q) (block_of_set t) (omega (arith, slot-below t q l)))
          ∙ pick b e
        where
          pick : (b : Bool) → has set' q ≡ b → image_of (block_in x (slot t q)) ≡ cond (has set' q) (pictured images q) (page_in x q)
          pick true e = new q l e ∙ sym (cond-true (has set' q) (pictured images q) (page_in x q) e)
          pick false e =
              ap (λ b. image_of (block_in x b)) (slot-like t (set_in x) q (kept q l e)) ∙ sym (page-at x q l)
              ∙ sym (cond-false (has set' q) (pictured images q) (page_in x q) e)

      high : (q : ℕ) → 64 ≤ q → page_in (set x 128 (block_of_set t)) q ≡ installed set' images (page_in x) q
      high q over = page-none (set x 128 (block_of_set t)) q over ∙ sym (cond-false (has set' q) (pictured images q) (page_in x q) (has_above 64 set' q within over) ∙ page-none x q over)

-- ---- a plan that installs a set

-- it fits the store, at every point all pages are old or the set's are all new, and at its end they are new
pub record Installs (bs : List (List ℕ)) (ws : List Write) (new : ℕ → List ℕ) : Type 0 where
  pub fits : Fitting (length bs) ws
  pub always : Throughout (λ x. (page_in x ≡ page_in bs) ⊎ (page_in x ≡ new)) bs ws
  pub ends : page_in (puts bs ws) ≡ new

-- quiet writes, then the one that turns, then quiet writes
installs : (bs : List (List ℕ)) (before after : List Write) (w : Write) (new : ℕ → List ℕ)
    → Fitting (length bs) before → Fitting (length bs) (w ∷ after)
    → Throughout (λ x. page_in x ≡ page_in bs) bs before
    → (y : List (List ℕ)) → y ≡ puts bs before → page_in (put y w) ≡ new
    → Throughout (λ x. page_in x ≡ page_in (put y w)) (put y w) after
    → Installs bs (before ++ w ∷ after) new
unfolding Fitting puts
installs bs before after w new f g t y ey en u =
    let z = puts bs (before ++ w ∷ []) in
    let ez : put y w ≡ z = ap (λ x. put x w) ey ∙ sym (puts-append bs before (w ∷ [])) in
    let quiet : Throughout (λ x. page_in x ≡ page_in z) z after = subst (λ v. Throughout (λ x. page_in x ≡ page_in v) v after) ez u in
    let turn : page_in z ≡ new = ap page_in (sym ez) ∙ en in
    record {
      fits = fitting-append (length bs) before (w ∷ after) f g;
      always = throughout-weaker (λ x. (page_in x ≡ page_in bs) ⊎ (page_in x ≡ page_in z)) (λ x. (page_in x ≡ page_in bs) ⊎ (page_in x ≡ new))
          (λ x e. elim e [ inl old ↦ inl old | inr n ↦ inr (n ∙ turn) ]) bs (before ++ w ∷ after) (atomic page_in bs before w after t quiet);
      ends =
          ap page_in (puts-append bs before (w ∷ after)) ∙ ap (λ x. page_in (puts (put x w) after)) (sym ey)
          ∙ throughout-last (λ x. page_in x ≡ page_in (put y w)) (put y w) after u ∙ en;
    }

module _ (bs : List (List ℕ)) (room : 129 ≤ length bs) (set' : ℕ) (within : set' < 2 ^ 64) (images : List ℕ) (long : length images ≡ 16384) where
  picture_fits : (p : ℕ) → p < 64 → has set' p ≡ true → length (pictured images p) ≡ 256
  picture_fits p l e = picture_length images p long l

  set-fits : (n s : ℕ) → 129 ≤ n → Fitting n (set_write s ∷ [])
  unfolding Fitting
  set-fits n s h = ((omega arith, set-length s), tt)

  -- ---- the shadow store

  module _ (low : set_in bs < 2 ^ 64) where
    other : ℕ
    other = bit_xor (set_in bs) every_page

    has_other : (p : ℕ) → p < 64 → has other p ≡ not (has (set_in bs) p)
    unfolding other
    has_other p l = has-xor (set_in bs) every_page p ∙ ap (differs (has (set_in bs) p)) (every p l) ∙ turn (has (set_in bs) p)
      where
        turn : (t : Bool) → differs t true ≡ not t
        turn true = refl
        turn false = refl

    pub shadow_installs : (set' ≡ 0 → ⊥) → Installs bs (image_writes (bit_xor (set_in bs) every_page) set' (pictured images) ++ (set_write (bit_xor (set_in bs) set') ∷ [])) (installed set' images (page_in bs))
    unfolding other Throughout Fitting
    shadow_installs some =
        let f = pictured images in
        let t = up_to-spare other set' f bs 64 (omega arith) (λ p l e. has_other p l) in
        let y = puts bs (image_writes other set' f) in
        let last = throughout-last (λ x. (page_in x ≡ page_in bs) × (set_in x ≡ set_in bs)) bs (image_writes other set' f) t in
        let far = length-puts bs (image_writes other set' f) in
        installs bs (image_writes other set' f) [] (set_write (bit_xor (set_in bs) set')) (installed set' images (page_in bs))
        (up_to-fits other set' f (length bs) 64 (omega arith) (omega arith) picture_fits)
        (set-fits (length bs) (bit_xor (set_in bs) set') room)
        (throughout-weaker (λ x. (page_in x ≡ page_in bs) × (set_in x ≡ set_in bs)) (λ x. page_in x ≡ page_in bs) (λ x h. h.0) bs (image_writes other set' f) t)
        y refl
        (turned set' images y (bit_xor (set_in bs) set') (omega arith) (xor_lt 64 (set_in bs) set' low within)
        (λ q l e. ap (λ b. image_of (block_in y b)) (slot-like (bit_xor (set_in bs) set') other q (has-xor (set_in bs) set' q ∙ ap (differs (has (set_in bs) q)) e ∙ flip (has (set_in bs) q) ∙ sym (has_other q l)))
        ∙ ap image_of (up_to-hit other set' f bs 64 q (omega arith) (omega arith) l e) ∙ picture_again images q long l)
        (λ q l e. has-xor (set_in bs) set' q ∙ ap (differs (has (set_in bs) q)) e ∙ stay (has (set_in bs) q) ∙ ap (λ s. has s q) (sym last.1))
        within
        ∙ ap (installed set' images) last.0)
        refl
      where
        flip : (t : Bool) → differs t true ≡ not t
        flip true = refl
        flip false = refl

        stay : (t : Bool) → differs t false ≡ t
        stay true = refl
        stay false = refl

  -- ---- the journal store

  module _ (whole : (b : ℕ) → b < length bs → length (block_in bs b) ≡ 256) where
    -- a mark is settled
    settle_steady : Throughout (λ x. page_in x ≡ page_in bs) bs (settle_writes bs) × (set_in (puts bs (settle_writes bs)) ≡ 0) × Fitting (length bs) (settle_writes bs)
    unfolding Throughout Fitting puts homes
    settle_steady = elim (cases_eq (set_in bs) 0) [
      | inl none ↦ subst Settled (sym (ap (λ t. cond t [] (homes (set_in bs) staged)) (eq-eqb (set_in bs) 0 none))) (refl, none, tt)
      | inr some ↦ subst Settled (sym (ap (λ t. cond t [] (homes (set_in bs) staged)) (ne_eqb (set_in bs) 0 some))) (
        homes-steady (set_in bs) staged bs room refl again,
        homes-clear (set_in bs) staged bs room refl again,
        fitting-append (length bs) (image_writes 0 (set_in bs) staged) (set_write 0 ∷ [])
            (up_to-fits 0 (set_in bs) staged (length bs) 64 (omega arith) (omega arith) (λ p l e. image-length (block_in bs (slot every_page p)) (thick p l)))
            (set-fits (length bs) 0 room),
      )
    ]
      where
        Settled : List Write → Type 0
        Settled ws = Throughout (λ x. page_in x ≡ page_in bs) bs ws × (set_in (puts bs ws) ≡ 0) × Fitting (length bs) ws

        staged : ℕ → List ℕ
        staged p = image_of (block_in bs (slot every_page p))

        thick : (p : ℕ) → p < 64 → 228 ≤ length (block_in bs (slot every_page p))
        thick p l = omega (arith, whole (slot every_page p) (omega (arith, slot-below every_page p l)))

        again : (q : ℕ) → q < 64 → has (set_in bs) q ≡ true → image_of (staged q) ≡ image_of (block_in bs (slot every_page q))
        again q l e = image-again (block_in bs (slot every_page q)) (thick q l)

    pub journal_installs : (set' ≡ 0 → ⊥)
        → Installs bs (settle_writes bs ++ (image_writes every_page set' (pictured images) ++ (set_write set' ∷ (image_writes 0 set' (pictured images) ++ (set_write 0 ∷ []))))) (installed set' images (page_in bs))
    unfolding homes Fitting Throughout
    journal_installs some =
        let f = pictured images in
        let stage = image_writes every_page set' f in
        let x = puts bs (settle_writes bs) in
        let farx = length-puts bs (settle_writes bs) in
        let sx = settle_steady.1 in
        let px = throughout-last (λ v. page_in v ≡ page_in bs) bs (settle_writes bs) settle_steady.0 in
        let t = up_to-spare every_page set' f x 64 (omega arith) (λ p l e. every p l ∙ sym (ap not (ap (λ s. has s p) sx ∙ has-none p))) in
        let y = puts x stage in
        let fary = length-puts x stage in
        let last = throughout-last (λ v. (page_in v ≡ page_in x) × (set_in v ≡ set_in x)) x stage t in
        let hit = λ (q : ℕ) (l : q < 64) (e : has set' q ≡ true). up_to-hit every_page set' f x 64 q (omega arith) (omega arith) l e in
        let turn = turned set' images y set' (omega arith) within
        (λ q l e. ap (λ b. image_of (block_in y b)) (slot-like set' every_page q (e ∙ sym (every q l))) ∙ ap image_of (hit q l e) ∙ picture_again images q long l)
        (λ q l e. e ∙ sym (ap (λ s. has s q) (last.1 ∙ sx) ∙ has-none q))
        within in
        let z = set y 128 (block_of_set set') in
        subst (λ ws. Installs bs ws (installed set' images (page_in bs))) (append_assoc (settle_writes bs) stage (set_write set' ∷ homes set' f))
        (installs bs (settle_writes bs ++ stage) (homes set' f) (set_write set') (installed set' images (page_in bs))
        (fitting-append (length bs) (settle_writes bs) stage settle_steady.2 (up_to-fits every_page set' f (length bs) 64 (omega arith) (omega arith) picture_fits))
        (fitting-append (length bs) (set_write set' ∷ []) (homes set' f) (set-fits (length bs) set' room)
        (fitting-append (length bs) (image_writes 0 set' f) (set_write 0 ∷ []) (up_to-fits 0 set' f (length bs) 64 (omega arith) (omega arith) picture_fits) (set-fits (length bs) 0 room)))
        (throughout-append (λ v. page_in v ≡ page_in bs) bs (settle_writes bs) stage settle_steady.0
        (throughout-weaker (λ v. (page_in v ≡ page_in x) × (set_in v ≡ set_in x)) (λ v. page_in v ≡ page_in bs) (λ v h. h.0 ∙ px) x stage t))
        y (sym (puts-append bs (settle_writes bs) stage))
        (turn ∙ ap (installed set' images) (last.0 ∙ px))
        (homes-steady set' f z (omega (arith, length-set y 128 (block_of_set set'))) (put-set y set' (omega arith) within)
        (λ q l e. sym (ap image_of (block-other y 128 (slot every_page q) (block_of_set set') (omega (arith, slot-below every_page q l)) ∙ hit q l e)))))

-- ---- staged images stay while pages are copied home

module _ (c : ℕ) (m m₁ : Device) (f : ℕ → List ℕ) (n : ℕ) (low : n < 64) (r : Ran m (up_to 0 c f n) None m₁) where
  abbrev home : Device → ℕ → List ℕ
  home x p = image_of (block_at x (slot every_page p))

  staged-stays : block_at m₁ (slot every_page n) ≡ block_at m (slot every_page n)
  staged-stays = ran-keeps (slot every_page n) r
      (All-map (λ (w : Write). w.block ≡ slot every_page n → ⊥) (image_write 0 f) (rising (has c) n)
      (All-weaker (λ p. (p < n) × (has c p ≡ true)) (λ p. slot 0 p ≡ slot every_page n → ⊥)
      (λ p h e. omega (arith, h.0, e, slot-lower 0 p (has-none p), slot-upper every_page n (every n low))) (rising (has c) n) (rising-all (has c) n)))

  -- so the next page is copied as it was at the start
  pub next-home : of_page 0 c (home m₁) n ≡ of_page 0 c (home m) n
  next-home = ap (λ b. cond (has c n) (record { block = slot 0 n; bytes = image_of b } ∷ []) []) staged-stays

-- ---- the plan of settling, by the mark

abbrev staged : List (List ℕ) → ℕ → List ℕ
staged bs p = image_of (block_in bs (slot every_page p))

pub settle_none : (bs : List (List ℕ)) → set_in bs ≡ 0 → settle_writes bs ≡ []
settle_none bs e = cond-true (eqb (set_in bs) 0) [] (image_writes 0 (set_in bs) (staged bs) ++ (set_write 0 ∷ [])) (eq-eqb (set_in bs) 0 e)

pub settle_some : (bs : List (List ℕ)) (mark : ℕ) → mark ≡ set_in bs → (mark ≡ 0 → ⊥) → settle_writes bs ≡ image_writes 0 mark (staged bs) ++ (set_write 0 ∷ [])
settle_some bs mark e ne =
    cond-false (eqb (set_in bs) 0) [] (image_writes 0 (set_in bs) (staged bs) ++ (set_write 0 ∷ [])) (ne_eqb (set_in bs) 0 (λ z. ne (e ∙ z)))
    ∙ ap (λ c. image_writes 0 c (staged bs) ++ (set_write 0 ∷ [])) (sym e)

-- ---- the plan of an install, by the set

journal_parts : List (List ℕ) → ℕ → List ℕ → List Write
journal_parts bs set images = settle_writes bs ++ (image_writes every_page set (pictured images) ++ (set_write set ∷ (image_writes 0 set (pictured images) ++ (set_write 0 ∷ []))))

pub journal_none : (bs : List (List ℕ)) (set : ℕ) (images : List ℕ) → set ≡ 0 → journal_writes bs set images ≡ []
unfolding journal_parts
journal_none bs set images e = cond-true (eqb set 0) [] (journal_parts bs set images) (eq-eqb set 0 e)

pub journal_some : (bs : List (List ℕ)) (set : ℕ) (images : List ℕ) → (set ≡ 0 → ⊥)
    → journal_writes bs set images ≡ settle_writes bs ++ (image_writes every_page set (pictured images) ++ (set_write set ∷ (image_writes 0 set (pictured images) ++ (set_write 0 ∷ []))))
unfolding journal_parts
journal_some bs set images ne = cond-false (eqb set 0) [] (journal_parts bs set images) (ne_eqb set 0 ne)

shadow_parts : List (List ℕ) → ℕ → List ℕ → List Write
shadow_parts bs set images = image_writes (bit_xor (set_in bs) every_page) set (pictured images) ++ (set_write (bit_xor (set_in bs) set) ∷ [])

pub shadow_none : (bs : List (List ℕ)) (set : ℕ) (images : List ℕ) → set ≡ 0 → shadow_writes bs set images ≡ []
unfolding shadow_parts
shadow_none bs set images e = cond-true (eqb set 0) [] (shadow_parts bs set images) (eq-eqb set 0 e)

pub shadow_some : (bs : List (List ℕ)) (set : ℕ) (images : List ℕ) → (set ≡ 0 → ⊥)
    → shadow_writes bs set images ≡ image_writes (bit_xor (set_in bs) every_page) set (pictured images) ++ (set_write (bit_xor (set_in bs) set) ∷ [])
unfolding shadow_parts
shadow_some bs set images ne = cond-false (eqb set 0) [] (shadow_parts bs set images) (ne_eqb set 0 ne)

-- the blocks of image writes do not depend on the images
image-blocks : (u s : ℕ) (f g : ℕ → List ℕ) (ps : List ℕ) → blocks_in (map (image_write u f) ps) ≡ blocks_in (map (image_write u g) ps)
image-blocks u s f g [] = refl
image-blocks u s f g (p ∷ ps) = ap (λ bs. slot u p ∷ bs) (image-blocks u s f g ps)

blocks-append : (ws vs : List Write) → blocks_in (ws ++ vs) ≡ blocks_in ws ++ blocks_in vs
blocks-append ws vs = map-append (λ w. w.block) ws vs

pub journal_plan_lem : (bs : List (List ℕ)) (set : ℕ) (images : List ℕ) → blocks_in (journal_writes bs set images) ≡ journal_plan bs set
unfolding journal_parts
journal_plan_lem bs set images = pick (eqb set 0)
  where
    parts : blocks_in (journal_parts bs set images) ≡ blocks_in (journal_parts bs set [])
    parts =
        let f = pictured images in
        let g = pictured [] in
        blocks-append (settle_writes bs) (image_writes every_page set f ++ (set_write set ∷ (image_writes 0 set f ++ (set_write 0 ∷ []))))
        ∙ ap (λ x. blocks_in (settle_writes bs) ++ x)
        (blocks-append (image_writes every_page set f) (set_write set ∷ (image_writes 0 set f ++ (set_write 0 ∷ [])))
        ∙ ap₂ (λ x y. x ++ (128 ∷ y)) (image-blocks every_page set f g (pages set))
        (blocks-append (image_writes 0 set f) (set_write 0 ∷ []) ∙ ap (λ x. x ++ (128 ∷ [])) (image-blocks 0 set f g (pages set)) ∙ sym (blocks-append (image_writes 0 set g) (set_write 0 ∷ [])))
        ∙ sym (blocks-append (image_writes every_page set g) (set_write set ∷ (image_writes 0 set g ++ (set_write 0 ∷ [])))))
        ∙ sym (blocks-append (settle_writes bs) (image_writes every_page set g ++ (set_write set ∷ (image_writes 0 set g ++ (set_write 0 ∷ [])))))

    pick : (t : Bool) → blocks_in (cond t [] (journal_parts bs set images)) ≡ blocks_in (cond t [] (journal_parts bs set []))
    pick true = refl
    pick false = parts

pub shadow_plan_lem : (bs : List (List ℕ)) (set : ℕ) (images : List ℕ) → blocks_in (shadow_writes bs set images) ≡ shadow_plan bs set
unfolding shadow_parts
shadow_plan_lem bs set images = pick (eqb set 0)
  where
    other' : ℕ
    other' = bit_xor (set_in bs) every_page

    pick : (t : Bool) → blocks_in (cond t [] (shadow_parts bs set images)) ≡ blocks_in (cond t [] (shadow_parts bs set []))
    pick true = refl
    pick false =
        blocks-append (image_writes other' set (pictured images)) (set_write (bit_xor (set_in bs) set) ∷ [])
        ∙ ap (λ x. x ++ (128 ∷ [])) (image-blocks other' set (pictured images) (pictured []) (pages set))
        ∙ sym (blocks-append (image_writes other' set (pictured [])) (set_write (bit_xor (set_in bs) set) ∷ []))
