-- Rising entries in two halves, and how many entries a put makes.
use Rattle.std.proofs.Common.{◌≡◌, ℕ, zero, suc, ◌^◌, ◌<◌, ◌≤◌, true, false, cond, not, ◌&&◌, eqb, List, [], ◌∷◌, ◌++◌, length, take, drop, Some, None, sym, refl, ap, ◌∙◌, inl, inr, arith}
use Rattle.std.specs.List.{AllByRecursion}
use Rattle.std.proofs.lemmas.List.{take-append-drop}
use Rattle.std.proofs.lemmas.Bool.{cases_Bool, eq-eqb, ne_eqb, both_ways, and_parts, and_from, not_from_false}
use Rattle.tree.specs.Orders.{KeyOrdering, TotalOrder}
use Rattle.tree.specs.Nodes.{Entry, find, absent, put, above, rising}
use Rattle.tree.specs.Laws.{Words}
use Rattle.treemap.proofs.RouteLaws.{put-by, find-same, find-other, find-key, none-some, rising-tail}

-- ---- two parts of a list

find-back : (k : ℕ) (xs ys : List Entry) → AllByRecursion (λ e. e.0 ≡ k → ⊥) xs → find k (xs ++ ys) ≡ find k ys
find-back k [] ys a = refl
find-back k (x ∷ xs) ys a = find-other k x (xs ++ ys) (ne_eqb x.0 k a.0) ∙ find-back k xs ys a.1

find-front : (k : ℕ) (xs ys : List Entry) → find k ys ≡ None → find k (xs ++ ys) ≡ find k xs
find-front k [] ys h = h
find-front k (x ∷ xs) ys h = ap (λ r. cond (eqb x.0 k) (Some x.1) r) (find-front k xs ys h)

module _ (o : KeyOrdering) (t : TotalOrder o) where
  above-front : (x : ℕ) (xs ys : List Entry) → above o x (xs ++ ys) ≡ true → above o x xs ≡ true
  above-front x [] ys h = refl
  above-front x (e ∷ xs) ys h =
      let p = and_parts (o.less x e.0) (above o e.0 (xs ++ ys)) h in
      and_from (o.less x e.0) (above o e.0 xs) p.0 (above-front e.0 xs ys p.1)

  rising-front : (xs ys : List Entry) → rising o (xs ++ ys) ≡ true → rising o xs ≡ true
  rising-front [] ys h = refl
  rising-front (e ∷ xs) ys h = above-front e.0 xs ys h

  rising-back : (xs ys : List Entry) → rising o (xs ++ ys) ≡ true → rising o ys ≡ true
  rising-back [] ys h = h
  rising-back (e ∷ xs) ys h = rising-back xs ys (rising-tail o t e.0 (xs ++ ys) h)

  pub rising-take : (n : ℕ) (es : List Entry) → rising o es ≡ true → rising o (take n es) ≡ true
  rising-take n es h = rising-front (take n es) (drop n es) (ap (rising o) (take-append-drop n es) ∙ h)

  pub rising-drop : (n : ℕ) (es : List Entry) → rising o es ≡ true → rising o (drop n es) ≡ true
  rising-drop n es h = rising-back (take n es) (drop n es) (ap (rising o) (take-append-drop n es) ∙ h)

  -- the keys of rising entries above x are not up to x
  pub above-none : (k x : ℕ) (es : List Entry) → o.less x k ≡ false → above o x es ≡ true → find k es ≡ None
  above-none k x [] n h = refl
  above-none k x (e ∷ es) n h =
      let p = and_parts (o.less x e.0) (above o e.0 es) h in
      let ne : e.0 ≡ k → ⊥ = λ q. both_ways (o.less x k) n (ap (λ y. o.less x y) (sym q) ∙ p.0) in
      let m : o.less e.0 k ≡ false = elim (cases_Bool (o.less e.0 k)) [ inl y ↦ absurd (both_ways (o.less x k) n (t.onward x e.0 k p.0 y)) | inr z ↦ z ] in
      find-other k e es (ne_eqb e.0 k ne) ∙ above-none k e.0 es m p.1

  pub not-both : (a b : ℕ) → o.less a b ≡ true → o.less b a ≡ false
  not-both a b l = elim (cases_Bool (o.less b a)) [ inl y ↦ absurd (both_ways (o.less a a) (t.apart a) (t.onward a b a l y)) | inr z ↦ z ]

  above-reach : (x m w : ℕ) (xs rest : List Entry) → above o x (xs ++ ((m, w) ∷ rest)) ≡ true → o.less x m ≡ true
  above-reach x m w [] rest h = (and_parts (o.less x m) (above o m rest) h).0
  above-reach x m w (e ∷ xs) rest h =
      let p = and_parts (o.less x e.0) (above o e.0 (xs ++ ((m, w) ∷ rest))) h in
      t.onward x e.0 m p.0 (above-reach e.0 m w xs rest p.1)

  all-below : (m w : ℕ) (xs rest : List Entry) → rising o (xs ++ ((m, w) ∷ rest)) ≡ true → AllByRecursion (λ e. o.less e.0 m ≡ true) xs
  all-below m w [] rest h = tt
  all-below m w (e ∷ xs) rest h = (above-reach e.0 m w xs rest h, all-below m w xs rest (rising-tail o t e.0 (xs ++ ((m, w) ∷ rest)) h))

  back_none : (k m w : ℕ) (rest : List Entry) → above o m rest ≡ true → o.less k m ≡ true → find k ((m, w) ∷ rest) ≡ None
  back_none k m w rest h l =
      find-other k (m, w) rest (ne_eqb m k (λ q. both_ways (o.less k m) (ap (λ y. o.less k y) q ∙ t.apart k) l)) ∙ above-none k m rest (not-both k m l) h

  -- entries es, of which number n is (m, w): a key below m is found among the first n, if at all, any other among the rest
  pub record Halves (n m : ℕ) (es : List Entry) : Type 0 where
    pub low-found : (k : ℕ) → o.less k m ≡ true → find k (take n es) ≡ find k es
    pub high-found : (k : ℕ) → o.less k m ≡ false → find k (drop n es) ≡ find k es
    pub low_below : (k r : ℕ) → find k (take n es) ≡ Some r → o.less k m ≡ true
    pub high-from : (k r : ℕ) → find k (drop n es) ≡ Some r → o.less k m ≡ false
    pub middle-found : (w : ℕ) × (find m es ≡ Some w)

  halves_of : (m w : ℕ) (xs rest : List Entry) → rising o (xs ++ ((m, w) ∷ rest)) ≡ true
      → ((k : ℕ) → o.less k m ≡ true → find k xs ≡ find k (xs ++ ((m, w) ∷ rest))) × ((k : ℕ) → o.less k m ≡ false → find k ((m, w) ∷ rest) ≡ find k (xs ++ ((m, w) ∷ rest)))
      × ((k r : ℕ) → find k xs ≡ Some r → o.less k m ≡ true) × ((k r : ℕ) → find k ((m, w) ∷ rest) ≡ Some r → o.less k m ≡ false)
  halves_of m w xs rest rise = (
    (λ k l. sym (find-front k xs ((m, w) ∷ rest) (back_none k m w rest up l))),
    (λ k n. sym (find-back k xs ((m, w) ∷ rest) (apart_from k n xs below))),
    (λ k r h. find-key (λ j. o.less j m ≡ true) k r xs below h),
    (λ k r h. elim (cases_Bool (o.less k m)) [ inl y ↦ none-some r (sym (back_none k m w rest up y) ∙ h) | inr z ↦ z ]),
  )
    where
      up : above o m rest ≡ true
      up = rising-back xs ((m, w) ∷ rest) rise

      below : AllByRecursion (λ e. o.less e.0 m ≡ true) xs
      below = all-below m w xs rest rise

      apart_from : (k : ℕ) → o.less k m ≡ false → (ys : List Entry) → AllByRecursion (λ e. o.less e.0 m ≡ true) ys → AllByRecursion (λ e. e.0 ≡ k → ⊥) ys
      apart_from k n [] a = tt
      apart_from k n (y ∷ ys) a = ((λ q. both_ways (o.less k m) n (ap (λ x. o.less x m) (sym q) ∙ a.0)), apart_from k n ys a.1)

  pub halves : (n m w : ℕ) (es rest : List Entry) → rising o es ≡ true → drop n es ≡ (m, w) ∷ rest → Halves n m es
  halves n m w es rest rise d =
      let whole : take n es ++ ((m, w) ∷ rest) ≡ es = ap (λ ys. take n es ++ ys) (sym d) ∙ take-append-drop n es in
      let h = halves_of m w (take n es) rest (ap (rising o) whole ∙ rise) in
      record {
        low-found = λ k l. h.0 k l ∙ ap (find k) whole;
        high-found = λ k l. ap (find k) d ∙ h.1 k l ∙ ap (find k) whole;
        low_below = h.2;
        high-from = λ k r f. h.3 k r (ap (find k) (sym d) ∙ f);
        middle-found = (w, sym (ap (find m) whole) ∙ sym (h.1 m (t.apart m)) ∙ find-same m (m, w) rest (eq-eqb m m refl));
      }

  -- ---- puts

  above-absent : (k x : ℕ) (es : List Entry) → o.less x k ≡ false → above o x es ≡ true → absent k es ≡ true
  above-absent k x [] n h = refl
  above-absent k x (e ∷ es) n h =
      let p = and_parts (o.less x e.0) (above o e.0 es) h in
      let ne : e.0 ≡ k → ⊥ = λ q. both_ways (o.less x k) n (ap (λ y. o.less x y) (sym q) ∙ p.0) in
      let m : o.less e.0 k ≡ false = elim (cases_Bool (o.less e.0 k)) [ inl y ↦ absurd (both_ways (o.less x k) n (t.onward x e.0 k p.0 y)) | inr z ↦ z ] in
      and_from (not (eqb e.0 k)) (absent k es) (not_from_false (eqb e.0 k) (ne_eqb e.0 k ne)) (above-absent k e.0 es m p.1)

  -- a put of a key that is there makes no entry more
  pub put-present : (k v : ℕ) (es : List Entry) → rising o es ≡ true → absent k es ≡ false → length (put o k v es) ≡ length es
  put-present k v [] rise h = absurd (both_ways true h refl)
  put-present k v (e ∷ es) rise h =
      let ih = put-present k v es (rising-tail o t e.0 es rise) in
      put-by (λ xs. length xs ≡ suc (length es)) o k v e es
      (λ same. refl)
      (λ other less. absurd (both_ways (absent k es) (rest other) (above-absent k e.0 es (not-both k e.0 less) rise)))
      (λ other _. ap suc (ih (rest other)))
    where
      rest : eqb e.0 k ≡ false → absent k es ≡ false
      rest other = sym (ap (λ b. not b && absent k es) other) ∙ h

  -- the least key is below the middle key
  pub least-below : (n m w : ℕ) (es rest : List Entry) → 1 ≤ n → rising o es ≡ true → drop n es ≡ (m, w) ∷ rest → o.less o.least m ≡ true
  least-below n m w [] rest l rise d = absurd (nil n d)
    where
      nil : (n : ℕ) → drop {A = Entry} n [] ≡ (m, w) ∷ rest → ⊥
      nil zero q = let z : ◌≡◌ {A = ℕ} 0 1 = cc in omega arith
      nil (suc n) q = let z : ◌≡◌ {A = ℕ} 0 1 = cc in omega arith
  least-below zero m w (e ∷ es) rest l rise d = absurd (omega arith)
  least-below (suc n) m w (e ∷ es) rest l rise d =
      let whole : take n es ++ ((m, w) ∷ rest) ≡ es = ap (λ ys. take n es ++ ys) (sym d) ∙ take-append-drop n es in
      let up : o.less e.0 m ≡ true = above-reach e.0 m w (take n es) rest (ap (above o e.0) whole ∙ rise) in
      elim (cases_Bool (o.less o.least m)) [
        | inl y ↦ y
        | inr z ↦ absurd (both_ways (o.less e.0 o.least) (t.from_least e.0) (ap (λ x. o.less e.0 x) (t.total o.least m z (t.from_least m)) ∙ up))
      ]

pub put-words : (o : KeyOrdering) (k v : ℕ) (es : List Entry) → k < 2 ^ 32 → v < 2 ^ 32 → Words es → Words (put o k v es)
put-words o k v [] lk lv w = ((lk, lv), tt)
put-words o k v (e ∷ es) lk lv w =
    let ih = put-words o k v es lk lv w.1 in
    put-by Words o k v e es (λ _. ((lk, lv), w.1)) (λ _ _. ((lk, lv), w)) (λ _ _. (w.0, ih))
