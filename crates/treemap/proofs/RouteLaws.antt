-- Where a root's entries lead a key.
use Rattle.std.proofs.Common.{◌≡◌, ℕ, ◌<◌, ◌≤◌, Bool, true, false, cond, not, ◌&&◌, ◌||◌, eqb, leb, ◌⊎◌, List, [], ◌∷◌, Some, None, Option, sym, refl, ap, ◌∙◌, subst, inl, inr, arith}
use mathlib.Core.Path.{fun_ext}
use Rattle.std.specs.List.{AllByRecursion}
use Rattle.std.proofs.lemmas.Bool.{cases_Bool, cond-true, cond-false, cond_both, eq-eqb, ne_eqb, eqb-true, eqb-false, both_ways, and_parts, and_from, not-true, not_from_false, or_from, or_left, or_right, leb-true, le-leb}
use Rattle.tree.specs.Orders.{KeyOrdering, TotalOrder}
use Rattle.tree.specs.Nodes.{Entry, find, absent, put, above, rising, fresh}
use Rattle.treemap.specs.Lookups.{last_up_to}

-- a put into a list, by its three ways
pub put-by : (P : List Entry → Type 0) (o : KeyOrdering) (k v : ℕ) (e : Entry) (es : List Entry)
    → (eqb e.0 k ≡ true → P ((k, v) ∷ es)) → (eqb e.0 k ≡ false → o.less k e.0 ≡ true → P ((k, v) ∷ (e ∷ es))) → (eqb e.0 k ≡ false → o.less k e.0 ≡ false → P (e ∷ put o k v es)) → P (put o k v (e ∷ es))
put-by P o k v e es same less more = go (eqb e.0 k) (o.less k e.0) same less more
  where
    go : (x y : Bool) → (x ≡ true → P ((k, v) ∷ es)) → (x ≡ false → y ≡ true → P ((k, v) ∷ (e ∷ es))) → (x ≡ false → y ≡ false → P (e ∷ put o k v es)) → P (cond x ((k, v) ∷ es) (cond y ((k, v) ∷ (e ∷ es)) (e ∷ put o k v es)))
    go true y a b d = a refl
    go false true a b d = b refl refl
    go false false a b d = d refl refl

-- ---- absent and found

pub absent-parts : (k : ℕ) (e : Entry) (es : List Entry) → absent k (e ∷ es) ≡ true → (eqb e.0 k ≡ false) × (absent k es ≡ true)
absent-parts k e es h = let p = and_parts (not (eqb e.0 k)) (absent k es) h in (not-true (eqb e.0 k) p.0, p.1)

pub find-same : (k : ℕ) (e : Entry) (es : List Entry) → eqb e.0 k ≡ true → find k (e ∷ es) ≡ Some e.1
find-same k e es h = cond-true (eqb e.0 k) (Some e.1) (find k es) h

pub find-other : (k : ℕ) (e : Entry) (es : List Entry) → eqb e.0 k ≡ false → find k (e ∷ es) ≡ find k es
find-other k e es h = cond-false (eqb e.0 k) (Some e.1) (find k es) h

pub none-some : {X : Type 0} (r : ℕ) → ◌≡◌ {A = Option ℕ} None (Some r) → X
none-some r h = absurd (let z : ◌≡◌ {A = ℕ} 0 1 = cc in omega arith)

pub some_same : (a b : ℕ) → ◌≡◌ {A = Option ℕ} (Some a) (Some b) → a ≡ b
some_same a b h = cc

pub absent_none : (k : ℕ) (es : List Entry) → absent k es ≡ true → find k es ≡ None
absent_none k [] h = refl
absent_none k (e ∷ es) h = let p = absent-parts k e es h in find-other k e es p.0 ∙ absent_none k es p.1

pub present-some : (k : ℕ) (es : List Entry) → absent k es ≡ false → (r : ℕ) × (find k es ≡ Some r)
present-some k [] h = absurd (both_ways true h refl)
present-some k (e ∷ es) h = go (cases_Bool (eqb e.0 k)) (present-some k es)
  where
    go : (eqb e.0 k ≡ true) ⊎ (eqb e.0 k ≡ false) → (absent k es ≡ false → (r : ℕ) × (find k es ≡ Some r)) → (r : ℕ) × (find k (e ∷ es) ≡ Some r)
    go (inl same) ih = (e.1, find-same k e es same)
    go (inr other) ih = let r = ih (sym (ap (λ b. not b && absent k es) other) ∙ h) in (r.0, find-other k e es other ∙ r.1)

-- what holds of all values holds of a value that is found, and what holds of all keys holds of a key that is found
pub find-value : (P : ℕ → Type 0) (k r : ℕ) (es : List Entry) → AllByRecursion (λ e. P e.1) es → find k es ≡ Some r → P r
find-value P k r [] a h = none-some r h
find-value P k r (e ∷ es) a h = go (cases_Bool (eqb e.0 k)) (find-value P k r es a.1)
  where
    go : (eqb e.0 k ≡ true) ⊎ (eqb e.0 k ≡ false) → (find k es ≡ Some r → P r) → P r
    go (inl same) ih = subst P (some_same e.1 r (sym (find-same k e es same) ∙ h)) a.0
    go (inr other) ih = ih (sym (find-other k e es other) ∙ h)

pub find-key : (P : ℕ → Type 0) (k r : ℕ) (es : List Entry) → AllByRecursion (λ e. P e.0) es → find k es ≡ Some r → P k
find-key P k r [] a h = none-some r h
find-key P k r (e ∷ es) a h = go (cases_Bool (eqb e.0 k)) (find-key P k r es a.1)
  where
    go : (eqb e.0 k ≡ true) ⊎ (eqb e.0 k ≡ false) → (find k es ≡ Some r → P k) → P k
    go (inl same) ih = subst P (eqb-true e.0 k same) a.0
    go (inr other) ih = ih (sym (find-other k e es other) ∙ h)

-- ---- values apart

-- the values differ from one another and from d
abbrev pub Apart : ℕ → List Entry → Type 0
Apart d [] = Unit {0}
Apart d (e ∷ es) = AllByRecursion (λ x. x.1 ≡ d → ⊥) (e ∷ es) × Apart e.1 es

pub apart-all : (d : ℕ) (es : List Entry) → Apart d es → AllByRecursion (λ x. x.1 ≡ d → ⊥) es
apart-all d [] a = tt
apart-all d (e ∷ es) a = a.0

pub apart-skip : (d : ℕ) (e : Entry) (es : List Entry) → Apart d (e ∷ es) → Apart d es
apart-skip d e [] a = tt
apart-skip d e (f ∷ fs) a = (a.0.1, a.1.1)

-- ---- the last entry up to a key

module _ (o : KeyOrdering) (t : TotalOrder o) where
  -- entries above a key that is above k do not count
  pub last-above : (k x d : ℕ) (es : List Entry) → o.less k x ≡ true → above o x es ≡ true → last_up_to o k d es ≡ d
  last-above k x d [] l a = refl
  last-above k x d (e ∷ es) l a =
      let parts = and_parts (o.less x e.0) (above o e.0 es) a in
      let below : o.less k e.0 ≡ true = t.onward k x e.0 l parts.0 in
      ap (λ y. last_up_to o k y es) (cond-true (o.less k e.0) d e.1 below) ∙ last-above k e.0 d es below parts.1

  pub last-above_it : (k d : ℕ) (es : List Entry) → above o k es ≡ true → last_up_to o k d es ≡ d
  last-above_it k d [] a = refl
  last-above_it k d (e ∷ es) a =
      let parts = and_parts (o.less k e.0) (above o e.0 es) a in
      ap (λ y. last_up_to o k y es) (cond-true (o.less k e.0) d e.1 parts.0) ∙ last-above k e.0 d es parts.0 parts.1

  pub rising-tail : (x : ℕ) (es : List Entry) → above o x es ≡ true → rising o es ≡ true
  rising-tail x [] a = refl
  rising-tail x (e ∷ es) a = (and_parts (o.less x e.0) (above o e.0 es) a).1

  -- what holds of the start and of all values holds where a key leads
  pub last-all : (P : ℕ → Type 0) (k d : ℕ) (es : List Entry) → P d → AllByRecursion (λ e. P e.1) es → P (last_up_to o k d es)
  last-all P k d [] h a = h
  last-all P k d (e ∷ es) h a = last-all P k (cond (o.less k e.0) d e.1) es (cond_both (o.less k e.0) d e.1 P (λ _. h) (λ _. a.0)) a.1

  -- either no entry counts, or the start does not matter
  pub last-cases : (P : ℕ → Type 0) (k : ℕ) (es : List Entry) → AllByRecursion (λ e. P e.1) es → ((x : ℕ) → last_up_to o k x es ≡ x) ⊎ ((v : ℕ) × P v × ((x : ℕ) → last_up_to o k x es ≡ v))
  last-cases P k [] a = inl (λ x. refl)
  last-cases P k (e ∷ es) a = go (o.less k e.0) (last-cases P k es a.1)
    where
      go : (b : Bool) → ((x : ℕ) → last_up_to o k x es ≡ x) ⊎ ((v : ℕ) × P v × ((x : ℕ) → last_up_to o k x es ≡ v)) → ((x : ℕ) → last_up_to o k (cond b x e.1) es ≡ x) ⊎ ((v : ℕ) × P v × ((x : ℕ) → last_up_to o k (cond b x e.1) es ≡ v))
      go true ih = ih
      go false (inl none) = inr (e.1, a.0, λ x. none e.1)
      go false (inr some) = inr (some.0, some.1, λ x. some.2 e.1)

  -- of two keys that differ, where one is not below the other, the other is below the one
  pub other_way : (a k : ℕ) → eqb a k ≡ false → o.less k a ≡ false → o.less a k ≡ true
  other_way a k ne n = elim (cases_Bool (o.less a k)) [ inl y ↦ y | inr m ↦ absurd (eqb-false a k ne (t.total a k m n)) ]

  -- a new entry (m, q) leaves the keys below m where they led
  pub last-put_below : (k m q d : ℕ) (es : List Entry) → absent m es ≡ true → o.less k m ≡ true → last_up_to o k d (put o m q es) ≡ last_up_to o k d es
  last-put_below k m q d [] a l = cond-true (o.less k m) d q l
  last-put_below k m q d (e ∷ es) a l =
      let p = absent-parts m e es a in
      let ih = last-put_below k m q (cond (o.less k e.0) d e.1) es p.1 l in
      put-by (λ xs. last_up_to o k d xs ≡ last_up_to o k d (e ∷ es)) o m q e es
      (λ same. absurd (both_ways (eqb e.0 m) p.0 same))
      (λ _ _. ap (λ y. last_up_to o k y (e ∷ es)) (cond-true (o.less k m) d q l))
      (λ _ _. ih)

  -- of the other keys it takes those that led where m led, and leaves the rest
  pub last-put_from : (k m q d : ℕ) (es : List Entry) → rising o es ≡ true → absent m es ≡ true → Apart d es → o.less k m ≡ false
      → (last_up_to o k d es ≡ last_up_to o m d es → last_up_to o k d (put o m q es) ≡ q) × ((last_up_to o k d es ≡ last_up_to o m d es → ⊥) → last_up_to o k d (put o m q es) ≡ last_up_to o k d es)
  last-put_from k m q d [] rise a apart n = ((λ _. cond-false (o.less k m) d q n), (λ ne. absurd (ne refl)))
  last-put_from k m q d (e ∷ es) rise a apart n =
      let p = absent-parts m e es a in
      let ih = last-put_from k m q e.1 es (rising-tail e.0 es rise) p.1 apart.1 n in
      put-by (λ xs. (last_up_to o k d (e ∷ es) ≡ last_up_to o m d (e ∷ es) → last_up_to o k d xs ≡ q) × ((last_up_to o k d (e ∷ es) ≡ last_up_to o m d (e ∷ es) → ⊥) → last_up_to o k d xs ≡ last_up_to o k d (e ∷ es))) o m q e es
      (λ same. absurd (both_ways (eqb e.0 m) p.0 same))
      (λ _ less. first less (last-cases (λ v. v ≡ d → ⊥) k (e ∷ es) apart.0))
      (λ other more. later ih (other_way e.0 m other more) more)
    where
      Goal : List Entry → Type 0
      Goal xs = (last_up_to o k d (e ∷ es) ≡ last_up_to o m d (e ∷ es) → last_up_to o k d xs ≡ q) × ((last_up_to o k d (e ∷ es) ≡ last_up_to o m d (e ∷ es) → ⊥) → last_up_to o k d xs ≡ last_up_to o k d (e ∷ es))

      first : o.less m e.0 ≡ true → ((x : ℕ) → last_up_to o k x (e ∷ es) ≡ x) ⊎ ((v : ℕ) × (v ≡ d → ⊥) × ((x : ℕ) → last_up_to o k x (e ∷ es) ≡ v)) → Goal ((m, q) ∷ (e ∷ es))
      first less cases =
          let lm : last_up_to o m d (e ∷ es) ≡ d = ap (λ y. last_up_to o m y es) (cond-true (o.less m e.0) d e.1 less) ∙ last-above m e.0 d es less rise in
          elim cases [
            | inl none ↦ ((λ _. ap (λ y. last_up_to o k y (e ∷ es)) (cond-false (o.less k m) d q n) ∙ none q), (λ ne. absurd (ne (none d ∙ sym lm))))
            | inr some ↦ ((λ h. absurd (some.1 (sym (some.2 d) ∙ h ∙ lm))), (λ _. some.2 (cond (o.less k m) d q) ∙ sym (some.2 d)))
          ]

      later : (last_up_to o k e.1 es ≡ last_up_to o m e.1 es → last_up_to o k e.1 (put o m q es) ≡ q) × ((last_up_to o k e.1 es ≡ last_up_to o m e.1 es → ⊥) → last_up_to o k e.1 (put o m q es) ≡ last_up_to o k e.1 es)
          → o.less e.0 m ≡ true → o.less m e.0 ≡ false → Goal (e ∷ put o m q es)
      later ih up more =
          let nk : o.less k e.0 ≡ false = elim (cases_Bool (o.less k e.0)) [ inl y ↦ absurd (both_ways (o.less k m) n (t.onward k e.0 m y up)) | inr z ↦ z ] in
          let ck : cond (o.less k e.0) d e.1 ≡ e.1 = cond-false (o.less k e.0) d e.1 nk in
          let cm : cond (o.less m e.0) d e.1 ≡ e.1 = cond-false (o.less m e.0) d e.1 more in
          let here : last_up_to o k d (e ∷ es) ≡ last_up_to o k e.1 es = ap (λ y. last_up_to o k y es) ck in
          let there : last_up_to o m d (e ∷ es) ≡ last_up_to o m e.1 es = ap (λ y. last_up_to o m y es) cm in
          let new : last_up_to o k d (e ∷ put o m q es) ≡ last_up_to o k e.1 (put o m q es) = ap (λ y. last_up_to o k y (put o m q es)) ck in
          ((λ h. new ∙ ih.0 (sym here ∙ h ∙ there)), (λ ne. new ∙ ih.1 (λ h. ne (here ∙ h ∙ sym there)) ∙ sym here))

  -- a key of the root leads to its value
  pub last-find : (m r d : ℕ) (es : List Entry) → rising o es ≡ true → find m es ≡ Some r → last_up_to o m d es ≡ r
  last-find m r d [] rise h = none-some r h
  last-find m r d (e ∷ es) rise h = go (cases_Bool (eqb e.0 m)) (λ x. last-find m r x es (rising-tail e.0 es rise))
    where
      go : (eqb e.0 m ≡ true) ⊎ (eqb e.0 m ≡ false) → ((x : ℕ) → find m es ≡ Some r → last_up_to o m x es ≡ r) → last_up_to o m d (e ∷ es) ≡ r
      go (inl same) ih =
          let em = eqb-true e.0 m same in
          let n : o.less m e.0 ≡ false = ap (λ x. o.less m x) em ∙ t.apart m in
          ap (λ y. last_up_to o m y es) (cond-false (o.less m e.0) d e.1 n) ∙ last-above_it m e.1 es (ap (λ x. above o x es) (sym em) ∙ rise) ∙ some_same e.1 r (sym (find-same m e es same) ∙ h)
      go (inr other) ih = ih (cond (o.less m e.0) d e.1) (sym (find-other m e es other) ∙ h)

  -- and no lower key leads there
  pub last-lower : (k m r d : ℕ) (es : List Entry) → rising o es ≡ true → Apart d es → (r ≡ d → ⊥) → find m es ≡ Some r → o.less k m ≡ true → last_up_to o k d es ≡ r → ⊥
  last-lower k m r d [] rise a ne h l = λ _. none-some r h
  last-lower k m r d (e ∷ es) rise a ne h l = go (cases_Bool (eqb e.0 m)) (λ x. last-lower k m r x es (rising-tail e.0 es rise))
    where
      go : (eqb e.0 m ≡ true) ⊎ (eqb e.0 m ≡ false) → ((x : ℕ) → Apart x es → (r ≡ x → ⊥) → find m es ≡ Some r → o.less k m ≡ true → last_up_to o k x es ≡ r → ⊥) → last_up_to o k d (e ∷ es) ≡ r → ⊥
      go (inl same) ih q =
          let le : o.less k e.0 ≡ true = ap (λ x. o.less k x) (eqb-true e.0 m same) ∙ l in
          let z : last_up_to o k d (e ∷ es) ≡ d = ap (λ y. last_up_to o k y es) (cond-true (o.less k e.0) d e.1 le) ∙ last-above k e.0 d es le rise in
          ne (sym q ∙ z)
      go (inr other) ih q =
          let found : find m es ≡ Some r = sym (find-other m e es other) ∙ h in
          let new : r ≡ e.1 → ⊥ = find-value (λ v. v ≡ e.1 → ⊥) m r es (apart-all e.1 es a.1) found in
          cond_both (o.less k e.0) d e.1 (λ y. last_up_to o k y es ≡ r → ⊥) (λ _. ih d (apart-skip d e es a) ne found l) (λ _. ih e.1 a.1 new found l) q

-- ---- fresh values

pub fresh-parts : (n : ℕ) (seen : ℕ → Bool) (e : Entry) (es : List Entry) → fresh n seen (e ∷ es) ≡ true → ((1 ≤ e.1) × (e.1 ≤ n) × (seen e.1 ≡ false)) × (fresh n (λ v. seen v || eqb v e.1) es ≡ true)
fresh-parts n seen e es h =
    let a = and_parts (leb 1 e.1 && (leb e.1 n && not (seen e.1))) (fresh n (λ v. seen v || eqb v e.1) es) h in
    let b = and_parts (leb 1 e.1) (leb e.1 n && not (seen e.1)) a.0 in
    let c = and_parts (leb e.1 n) (not (seen e.1)) b.1 in
    ((leb-true 1 e.1 b.0, leb-true e.1 n c.0, not-true (seen e.1) c.1), a.1)

pub fresh-from : (n : ℕ) (seen : ℕ → Bool) (e : Entry) (es : List Entry) → 1 ≤ e.1 → e.1 ≤ n → seen e.1 ≡ false → fresh n (λ v. seen v || eqb v e.1) es ≡ true → fresh n seen (e ∷ es) ≡ true
fresh-from n seen e es low high new rest =
    and_from (leb 1 e.1 && (leb e.1 n && not (seen e.1))) (fresh n (λ v. seen v || eqb v e.1) es)
    (and_from (leb 1 e.1) (leb e.1 n && not (seen e.1)) (le-leb 1 e.1 low) (and_from (leb e.1 n) (not (seen e.1)) (le-leb e.1 n high) (not_from_false (seen e.1) new))) rest

pub fresh-range : (n : ℕ) (seen : ℕ → Bool) (es : List Entry) → fresh n seen es ≡ true → AllByRecursion (λ e. (1 ≤ e.1) × (e.1 ≤ n)) es
fresh-range n seen [] h = tt
fresh-range n seen (e ∷ es) h = let p = fresh-parts n seen e es h in ((p.0.0, p.0.1), fresh-range n (λ v. seen v || eqb v e.1) es p.1)

fresh-not : (n d : ℕ) (seen : ℕ → Bool) (es : List Entry) → fresh n seen es ≡ true → seen d ≡ true → AllByRecursion (λ e. e.1 ≡ d → ⊥) es
fresh-not n d seen [] h s = tt
fresh-not n d seen (e ∷ es) h s =
    let p = fresh-parts n seen e es h in
    ((λ q. both_ways (seen d) (ap seen (sym q) ∙ p.0.2) s), fresh-not n d (λ v. seen v || eqb v e.1) es p.1 (or_left (seen d) (eqb d e.1) s))

pub fresh-apart : (n d : ℕ) (seen : ℕ → Bool) (es : List Entry) → fresh n seen es ≡ true → AllByRecursion (λ e. e.1 ≡ d → ⊥) es → Apart d es
fresh-apart n d seen [] h a = tt
fresh-apart n d seen (e ∷ es) h a =
    let p = fresh-parts n seen e es h in
    (a, fresh-apart n e.1 (λ v. seen v || eqb v e.1) es p.1 (fresh-not n e.1 (λ v. seen v || eqb v e.1) es p.1 (or_right (seen e.1) (eqb e.1 e.1) (eq-eqb e.1 e.1 refl))))

fresh-like : (n : ℕ) (f g : ℕ → Bool) (es : List Entry) → ((v : ℕ) → f v ≡ g v) → fresh n f es ≡ fresh n g es
fresh-like n f g es h = ap (λ s. fresh n s es) (fun_ext h)

-- a value above all that were allowed
fresh-wider : (n m q : ℕ) (seen : ℕ → Bool) (es : List Entry) → n ≤ m → n < q → fresh n seen es ≡ true → fresh m (λ v. seen v || eqb v q) es ≡ true
fresh-wider n m q seen [] nm nq h = refl
fresh-wider n m q seen (e ∷ es) nm nq h =
    let p = fresh-parts n seen e es h in
    let low = p.0.0 in
    let high = p.0.1 in
    let ih = fresh-wider n m q (λ v. seen v || eqb v e.1) es nm nq p.1 in
    fresh-from m (λ v. seen v || eqb v q) e es low (omega arith) (or_from (seen e.1) (eqb e.1 q) p.0.2 (ne_eqb e.1 q (λ x. omega arith)))
    (fresh-like m (λ v. (seen v || eqb v q) || eqb v e.1) (λ v. (seen v || eqb v e.1) || eqb v q) es (λ v. turned (seen v) (eqb v q) (eqb v e.1)) ∙ ih)
  where
    turned : (a b c : Bool) → ((a || b) || c) ≡ ((a || c) || b)
    turned true b c = refl
    turned false true true = refl
    turned false true false = refl
    turned false false true = refl
    turned false false false = refl

pub fresh-put : (o : KeyOrdering) (n m q k : ℕ) (seen : ℕ → Bool) (es : List Entry) → n ≤ m → n < q → q ≤ m → seen q ≡ false → absent k es ≡ true → fresh n seen es ≡ true → fresh m seen (put o k q es) ≡ true
fresh-put o n m q k seen [] nm nq qm s a h = fresh-from m seen (k, q) [] (omega arith) qm s refl
fresh-put o n m q k seen (e ∷ es) nm nq qm s a h =
    let p = fresh-parts n seen e es h in
    let low = p.0.0 in
    let high = p.0.1 in
    let gone = absent-parts k e es a in
    let ih = fresh-put o n m q k (λ v. seen v || eqb v e.1) es nm nq qm (or_from (seen q) (eqb q e.1) s (ne_eqb q e.1 (λ x. omega arith))) gone.1 p.1 in
    put-by (λ xs. fresh m seen xs ≡ true) o k q e es
    (λ same. absurd (both_ways (eqb e.0 k) gone.0 same))
    (λ _ _. fresh-from m seen (k, q) (e ∷ es) (omega arith) qm s (fresh-wider n m q seen (e ∷ es) nm nq h))
    (λ _ _. fresh-from m seen e (put o k q es) low (omega arith) p.0.2 ih)
