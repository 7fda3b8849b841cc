-- Pages and entries as maps.
use Rattle.std.proofs.Common.{◌≡◌, ℕ, suc, ◌+◌, ◌-◌, ◌*◌, max, Bool, true, false, cond, eqb, List, [], ◌∷◌, ◌++◌, length, take, drop, replicate, Some, sym, refl, ap, ◌∙◌, inl, inr}
use Rattle.std.proofs.lemmas.List.{append_assoc, take_at, drop_at}
use Rattle.std.proofs.lemmas.Bool.{cases_Bool, cond-true, cond-false, eq-eqb, ne_eqb, eqb-true, eqb-false, and_parts, and_from}
use Rattle.sets.specs.Words.{number, bytes_of, part}
use Rattle.sets.proofs.WordLaws.{bytes-length, number-bytes}
use Rattle.tree.specs.Orders.{KeyOrdering, TotalOrder}
use Rattle.tree.specs.Nodes.{Entry, find, put, above, rising, count, entries, entries_bytes, entries_of, renew}
use Rattle.tree.specs.Laws.{Words, Codec, Puts}

-- entries read back from their bytes
entries-back : (es : List Entry) (rest : List ℕ) → Words es → entries_of (length es) (entries_bytes es ++ rest) ≡ es
entries-back [] rest w = refl
entries-back (e ∷ es) rest w =
    let k = bytes_of 4 e.0 in
    let v = bytes_of 4 e.1 in
    let t = entries_bytes es ++ rest in
    let split : ((k ++ v) ++ entries_bytes es) ++ rest ≡ k ++ (v ++ t) = append_assoc (k ++ v) (entries_bytes es) rest ∙ append_assoc k v t in
    let e0 : number (part 0 4 (k ++ (v ++ t))) ≡ e.0 = ap number (take_at k (v ++ t) 4 (bytes-length 4 e.0)) ∙ number-bytes 4 e.0 w.0.0 in
    let e1 : number (part 4 4 (k ++ (v ++ t))) ≡ e.1 = ap (λ x. number (take 4 x)) (drop_at k (v ++ t) 4 (bytes-length 4 e.0)) ∙ ap number (take_at v t 4 (bytes-length 4 e.1)) ∙ number-bytes 4 e.1 w.0.1 in
    let e8 : drop 8 (k ++ (v ++ t)) ≡ t = ap (drop 8) (sym (append_assoc k v t)) ∙ drop_at (k ++ v) t 8 refl in
    ap (entries_of (suc (length es))) split
    ∙ (λ i. (e0 i, e1 i) ∷ entries_of (length es) (e8 i))
    ∙ ap (λ x. e ∷ x) (entries-back es rest w.1)

pub codec : Codec
unfolding entries renew
codec m es c w = (refl, refl, entries-back es (replicate (8 * (count c - length es)) 0 ++ drop (4 + 8 * max (length es) (count c)) c) w)

-- ---- puts

-- a put into a list, by its three ways
put-by : (P : List Entry → Type 0) (o : KeyOrdering) (k v : ℕ) (e : Entry) (es : List Entry)
    → (eqb e.0 k ≡ true → P ((k, v) ∷ es)) → (eqb e.0 k ≡ false → o.less k e.0 ≡ true → P ((k, v) ∷ (e ∷ es))) → (eqb e.0 k ≡ false → o.less k e.0 ≡ false → P (e ∷ put o k v es)) → P (put o k v (e ∷ es))
put-by P o k v e es same less more = go (eqb e.0 k) (o.less k e.0) same less more
  where
    go : (x y : Bool) → (x ≡ true → P ((k, v) ∷ es)) → (x ≡ false → y ≡ true → P ((k, v) ∷ (e ∷ es))) → (x ≡ false → y ≡ false → P (e ∷ put o k v es)) → P (cond x ((k, v) ∷ es) (cond y ((k, v) ∷ (e ∷ es)) (e ∷ put o k v es)))
    go true y a b d = a refl
    go false true a b d = b refl refl
    go false false a b d = d refl refl

find-here : (k v : ℕ) (es : List Entry) → find k ((k, v) ∷ es) ≡ Some v
find-here k v es = cond-true (eqb k k) (Some v) (find k es) (eq-eqb k k refl)

find-other : (j : ℕ) (e : Entry) (es : List Entry) → eqb e.0 j ≡ false → find j (e ∷ es) ≡ find j es
find-other j e es h = cond-false (eqb e.0 j) (Some e.1) (find j es) h

put-finds : (o : KeyOrdering) (k v : ℕ) (es : List Entry) → find k (put o k v es) ≡ Some v
put-finds o k v [] = find-here k v []
put-finds o k v (e ∷ es) =
    let ih = put-finds o k v es in
    put-by (λ xs. find k xs ≡ Some v) o k v e es (λ _. find-here k v es) (λ _ _. find-here k v (e ∷ es)) (λ other _. find-other k e (put o k v es) other ∙ ih)

put_keeps : (o : KeyOrdering) (k v j : ℕ) (es : List Entry) → (j ≡ k → ⊥) → find j (put o k v es) ≡ find j es
put_keeps o k v j [] ne = find-other j (k, v) [] (ne_eqb k j (λ h. ne (sym h)))
put_keeps o k v j (e ∷ es) ne =
    let ih = put_keeps o k v j es ne in
    let gone : (xs : List Entry) → find j ((k, v) ∷ xs) ≡ find j xs = λ xs. find-other j (k, v) xs (ne_eqb k j (λ h. ne (sym h))) in
    put-by (λ xs. find j xs ≡ find j (e ∷ es)) o k v e es
    (λ same. gone es ∙ sym (find-other j e es (ne_eqb e.0 j (λ h. ne (sym h ∙ eqb-true e.0 k same)))))
    (λ _ _. gone (e ∷ es))
    (λ _ _. ap (λ r. cond (eqb e.0 j) (Some e.1) r) ih)

put-above : (o : KeyOrdering) → TotalOrder o → (x k v : ℕ) (es : List Entry) → o.less x k ≡ true → above o x es ≡ true → above o x (put o k v es) ≡ true
put-above o t x k v [] below rise = and_from (o.less x k) true below refl
put-above o t x k v (e ∷ es) below rise =
    let parts = and_parts (o.less x e.0) (above o e.0 es) rise in
    put-by (λ xs. above o x xs ≡ true) o k v e es
    (λ same. and_from (o.less x k) (above o k es) below (ap (λ y. above o y es) (sym (eqb-true e.0 k same)) ∙ parts.1))
    (λ _ less. and_from (o.less x k) (above o k (e ∷ es)) below (and_from (o.less k e.0) (above o e.0 es) less parts.1))
    (λ other more. and_from (o.less x e.0) (above o e.0 (put o k v es)) parts.0
    (put-above o t e.0 k v es (elim (cases_Bool (o.less e.0 k)) [ inl y ↦ y | inr n ↦ absurd (eqb-false e.0 k other (t.total e.0 k n more)) ]) parts.1))

put-rising : (o : KeyOrdering) → TotalOrder o → (k v : ℕ) (es : List Entry) → rising o es ≡ true → rising o (put o k v es) ≡ true
put-rising o t k v [] rise = refl
put-rising o t k v (e ∷ es) rise =
    put-by (λ xs. rising o xs ≡ true) o k v e es
    (λ same. ap (λ y. above o y es) (sym (eqb-true e.0 k same)) ∙ rise)
    (λ _ less. and_from (o.less k e.0) (above o e.0 es) less rise)
    (λ other more. put-above o t e.0 k v es (elim (cases_Bool (o.less e.0 k)) [ inl y ↦ y | inr n ↦ absurd (eqb-false e.0 k other (t.total e.0 k n more)) ]) rise)

pub puts : (o : KeyOrdering) → TotalOrder o → Puts o
puts o t = record { itself = put-finds o; others = put_keeps o; rises = put-rising o t }
