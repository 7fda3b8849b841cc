-- Pages and their entries: what each step writes is the renewed page.
use Rattle.std.specs.Prelude.{◌≡◌, ℕ, zero, suc, ◌+◌, ◌-◌, ◌*◌, ◌<◌, ◌≤◌, max, Bool, true, false, cond, ◌⊎◌, List, [], ◌∷◌, ◌++◌, length, take, drop, replicate, ◌==◌, refl}
use Rattle.std.proofs.Common.{inl, inr, subst, ◌∙◌}
use Rattle.std.proofs.Math.Path.{sym, ap, ap₂}
use mir.Val.{bool_byte}
use native.Mathlib.Omega.{arith}
use borrow.Rule.Slice.PartMut.{put_mid, post_of}
use Rattle.std.specs.List.{AllByRecursion}
use Rattle.std.proofs.ByRecursion.{All-take, All-drop}
use Rattle.std.proofs.lemmas.List.{append_assoc, append-nil, length-append, length-take, length-drop, take_at, drop_at, drop_all, drop-drop}
use Rattle.std.proofs.lemmas.Bool.{cases_Bool, cond-true, cond-false, eqb-true, eqb-false, both_ways}
use Rattle.sets.specs.Words.{number, bytes_of, part}
use Rattle.sets.proofs.WordLaws.{bytes-number}
use Rattle.tree.specs.Orders.{KeyOrdering, TotalOrder}
use Rattle.tree.specs.Nodes.{Entry, put, before, hit, entry_bytes, entries_bytes, entries_of, count, entries, head_of, renew}
use Rattle.tree.specs.Steps.{blank}
use Rattle.tree.specs.EntryLaws.{from, from_more, from-none, entry_at}

-- ---- putting a key in

below_less : (o : KeyOrdering) → TotalOrder o → (a k : ℕ) → o.less k a ≡ true → o.less a k ≡ false
below_less o t a k h = elim (cases_Bool (o.less a k)) [
  | inl y ↦ absurd (both_ways (o.less k k) (t.apart k) (t.onward k a k h y))
  | inr n ↦ n
]

pub put_is : (o : KeyOrdering) → TotalOrder o → (k v : ℕ) (es : List Entry) → put o k v es ≡ take (before o k es) es ++ ((k, v) ∷ drop (before o k es + hit k (drop (before o k es) es)) es)
put_is o t k v [] = refl
put_is o t k v (e ∷ es) = go (cases_Bool (e.0 == k)) (cases_Bool (o.less k e.0)) (put_is o t k v es)
  where
    Goal : ℕ → List Entry → Type 0
    Goal b p = p ≡ take b (e ∷ es) ++ ((k, v) ∷ drop (b + hit k (drop b (e ∷ es))) (e ∷ es))

    go : ((e.0 == k) ≡ true) ⊎ ((e.0 == k) ≡ false) → (o.less k e.0 ≡ true) ⊎ (o.less k e.0 ≡ false) → put o k v es ≡ take (before o k es) es ++ ((k, v) ∷ drop (before o k es + hit k (drop (before o k es) es)) es)
        → Goal (cond (o.less e.0 k) (suc (before o k es)) 0) (cond (e.0 == k) ((k, v) ∷ es) (cond (o.less k e.0) ((k, v) ∷ (e ∷ es)) (e ∷ put o k v es)))
    go (inl same) _ ih =
        let nl : o.less e.0 k ≡ false = ap (λ x. o.less x k) (eqb-true e.0 k same) ∙ t.apart k in
        let z : cond (o.less e.0 k) (suc (before o k es)) 0 ≡ 0 = cond-false (o.less e.0 k) (suc (before o k es)) 0 nl in
        let p : cond (e.0 == k) ((k, v) ∷ es) (cond (o.less k e.0) ((k, v) ∷ (e ∷ es)) (e ∷ put o k v es)) ≡ (k, v) ∷ es = cond-true (e.0 == k) _ _ same in
        let one : 0 + cond (e.0 == k) 1 0 ≡ suc 0 = ap (λ b. 0 + cond b 1 0) same in
        subst (λ b. Goal b (cond (e.0 == k) ((k, v) ∷ es) (cond (o.less k e.0) ((k, v) ∷ (e ∷ es)) (e ∷ put o k v es)))) (sym z) (p ∙ ap (λ j. (k, v) ∷ drop j (e ∷ es)) (sym one))
    go (inr other) (inl less) ih =
        let nl : o.less e.0 k ≡ false = below_less o t e.0 k less in
        let z : cond (o.less e.0 k) (suc (before o k es)) 0 ≡ 0 = cond-false (o.less e.0 k) (suc (before o k es)) 0 nl in
        let p : cond (e.0 == k) ((k, v) ∷ es) (cond (o.less k e.0) ((k, v) ∷ (e ∷ es)) (e ∷ put o k v es)) ≡ (k, v) ∷ (e ∷ es) = cond-false (e.0 == k) _ _ other ∙ cond-true (o.less k e.0) _ _ less in
        let none : 0 + cond (e.0 == k) 1 0 ≡ 0 = ap (λ b. 0 + cond b 1 0) other in
        subst (λ b. Goal b (cond (e.0 == k) ((k, v) ∷ es) (cond (o.less k e.0) ((k, v) ∷ (e ∷ es)) (e ∷ put o k v es)))) (sym z) (p ∙ ap (λ j. (k, v) ∷ drop j (e ∷ es)) (sym none))
    go (inr other) (inr more) ih =
        let yl : o.less e.0 k ≡ true = elim (cases_Bool (o.less e.0 k)) [ inl y ↦ y | inr n ↦ absurd (eqb-false e.0 k other (t.total e.0 k n more)) ] in
        let z : cond (o.less e.0 k) (suc (before o k es)) 0 ≡ suc (before o k es) = cond-true (o.less e.0 k) (suc (before o k es)) 0 yl in
        let p : cond (e.0 == k) ((k, v) ∷ es) (cond (o.less k e.0) ((k, v) ∷ (e ∷ es)) (e ∷ put o k v es)) ≡ e ∷ put o k v es = cond-false (e.0 == k) _ _ other ∙ cond-false (o.less k e.0) _ _ more in
        let up : suc (before o k es) + hit k (drop (before o k es) es) ≡ suc (before o k es + hit k (drop (before o k es) es)) = omega arith in
        subst (λ b. Goal b (cond (e.0 == k) ((k, v) ∷ es) (cond (o.less k e.0) ((k, v) ∷ (e ∷ es)) (e ∷ put o k v es)))) (sym z) (p ∙ ap (λ xs. e ∷ xs) ih ∙ ap (λ j. e ∷ (take (before o k es) es ++ ((k, v) ∷ drop j (e ∷ es)))) (sym up))

pub before-within : (o : KeyOrdering) (k : ℕ) (es : List Entry) → before o k es + hit k (drop (before o k es) es) ≤ length es
before-within o k [] = omega arith
before-within o k (e ∷ es) = go (cases_Bool (o.less e.0 k)) (before-within o k es)
  where
    Goal : ℕ → Type 0
    Goal b = b + hit k (drop b (e ∷ es)) ≤ suc (length es)

    first : (x : Bool) → 0 + cond x 1 0 ≤ suc (length es)
    first true = omega arith
    first false = omega arith

    go : (o.less e.0 k ≡ true) ⊎ (o.less e.0 k ≡ false) → before o k es + hit k (drop (before o k es) es) ≤ length es → Goal (cond (o.less e.0 k) (suc (before o k es)) 0)
    go (inl y) ih = subst Goal (sym (cond-true (o.less e.0 k) (suc (before o k es)) 0 y)) (omega arith)
    go (inr n) ih = subst Goal (sym (cond-false (o.less e.0 k) (suc (before o k es)) 0 n)) (first (e.0 == k))

pub hit-small : (k : ℕ) (es : List Entry) → hit k es ≤ 1
hit-small k [] = omega arith
hit-small k (e ∷ es) = go (e.0 == k)
  where
    go : (x : Bool) → cond x 1 0 ≤ 1
    go true = omega arith
    go false = omega arith

pub put-length : (o : KeyOrdering) → TotalOrder o → (k v : ℕ) (es : List Entry) → length (put o k v es) ≡ length es + 1 - hit k (drop (before o k es) es)
put-length o t k v es =
    let w = before-within o k es in
    let h = hit-small k (drop (before o k es) es) in
    ap length (put_is o t k v es) ∙ simp (length-append, length-take, length-drop) (omega arith)

-- ---- entries and bytes

pub length-entries_of : (n : ℕ) (bs : List ℕ) → length (entries_of n bs) ≡ n
length-entries_of zero bs = refl
length-entries_of (suc n) bs = ap suc (length-entries_of n (drop 8 bs))

pub take-entries_of : (i n : ℕ) (bs : List ℕ) → i ≤ n → take i (entries_of n bs) ≡ entries_of i bs
take-entries_of zero n bs l = refl
take-entries_of (suc i) zero bs l = absurd (omega arith)
take-entries_of (suc i) (suc n) bs l = ap (λ t. (number (part 0 4 bs), number (part 4 4 bs)) ∷ t) (take-entries_of i n (drop 8 bs) (omega arith))

pub drop-entries_of : (i n : ℕ) (bs : List ℕ) → drop i (entries_of n bs) ≡ entries_of (n - i) (drop (8 * i) bs)
drop-entries_of zero n bs = let z : n - 0 ≡ n = omega arith in ap (λ m. entries_of m bs) (sym z)
drop-entries_of (suc i) zero bs = let z : 0 - suc i ≡ 0 = omega arith in ap (λ m. entries_of m (drop (8 * suc i) bs)) (sym z)
drop-entries_of (suc i) (suc n) bs =
    let a : n - i ≡ suc n - suc i = omega arith in
    let b : 8 + 8 * i ≡ 8 * suc i = omega arith in
    drop-entries_of i n (drop 8 bs) ∙ ap₂ (λ m t. entries_of m t) a (drop-drop (8 * i) 8 bs ∙ ap (λ j. drop j bs) b)

pub entries_bytes-append : (xs ys : List Entry) → entries_bytes (xs ++ ys) ≡ entries_bytes xs ++ entries_bytes ys
entries_bytes-append [] ys = refl
entries_bytes-append (x ∷ xs) ys = ap (λ t. entry_bytes x ++ t) (entries_bytes-append xs ys) ∙ sym (append_assoc (entry_bytes x) (entries_bytes xs) (entries_bytes ys))

word_of : (bs : List ℕ) (a : ℕ) → a + 4 ≤ length bs → AllByRecursion (λ b. b < 256) bs → bytes_of 4 (number (part a 4 bs)) ≡ part a 4 bs
word_of bs a l all = bytes-number 4 (part a 4 bs) (simp (length-take, length-drop) (omega arith)) (All-take (λ b. b < 256) 4 (drop a bs) (All-drop (λ b. b < 256) a bs all))

-- the bytes of the entries that bytes hold are these bytes
pub bytes-entries_of : (n : ℕ) (bs : List ℕ) → 8 * n ≤ length bs → AllByRecursion (λ b. b < 256) bs → entries_bytes (entries_of n bs) ≡ take (8 * n) bs
bytes-entries_of zero bs l all = refl
bytes-entries_of (suc n) bs l all =
    let ih = bytes-entries_of n (drop 8 bs) (simp length-drop (omega arith)) (All-drop (λ b. b < 256) 8 bs all) in
    let w0 = word_of bs 0 (omega arith) all in
    let w4 = word_of bs 4 (omega arith) all in
    let d : 8 * suc n ≡ 4 + (4 + 8 * n) = omega arith in
    ap₂ ◌++◌ (ap₂ ◌++◌ w0 w4) ih
    ∙ append_assoc (take 4 bs) (part 4 4 bs) (take (8 * n) (drop 8 bs))
    ∙ ap (λ t. take 4 bs ++ t) (ap (λ t. part 4 4 bs ++ take (8 * n) t) (sym (drop-drop 4 4 bs)) ∙ sym (take-sum 4 (8 * n) (drop 4 bs)))
    ∙ sym (take-sum 4 (4 + 8 * n) bs) ∙ ap (λ j. take j bs) (sym d)
  where
    take-sum : (a b : ℕ) (xs : List ℕ) → take (a + b) xs ≡ take a xs ++ take b (drop a xs)
    take-sum zero b xs = let z : 0 + b ≡ b = omega arith in ap (λ j. take j xs) z
    take-sum (suc a) b [] = let s : suc a + b ≡ suc (a + b) = omega arith in ap (λ j. take {A = ℕ} j []) s ∙ sym (nil b)
      where
        nil : (b : ℕ) → take {A = ℕ} b [] ≡ []
        nil zero = refl
        nil (suc b) = refl
    take-sum (suc a) b (x ∷ xs) = let s : suc a + b ≡ suc (a + b) = omega arith in ap (λ j. take j (x ∷ xs)) s ∙ ap (λ t. x ∷ t) (take-sum a b xs)

-- stretches of a page's entries
module _ (c : List ℕ) (len : length c ≡ 224) (few : count c ≤ 26) (all : AllByRecursion (λ b. b < 256) c) where
  pub length-entries : length (entries c) ≡ count c
  unfolding entries
  length-entries = length-entries_of (count c) (drop 4 c)

  pub bytes-front : (i : ℕ) → i ≤ count c → entries_bytes (take i (entries c)) ≡ part 4 (8 * i) c
  unfolding entries
  bytes-front i l = ap entries_bytes (take-entries_of i (count c) (drop 4 c) l) ∙ bytes-entries_of i (drop 4 c) (simp length-drop (omega arith)) (All-drop (λ b. b < 256) 4 c all)

  pub bytes_back : (j k : ℕ) → j ≤ count c → k ≡ 8 * (count c - j) → entries_bytes (drop j (entries c)) ≡ part (4 + 8 * j) k c
  unfolding entries
  bytes_back j k l e =
      ap entries_bytes (drop-entries_of j (count c) (drop 4 c) ∙ ap (entries_of (count c - j)) (drop-drop (8 * j) 4 c))
      ∙ bytes-entries_of (count c - j) (drop (4 + 8 * j) c) (simp length-drop (omega arith)) (All-drop (λ b. b < 256) (4 + 8 * j) c all)
      ∙ ap (λ x. take x (drop (4 + 8 * j) c)) (sym e)

  -- a key put in
  pub renew-put : (o : KeyOrdering) → TotalOrder o → (m k v i j : ℕ) → i ≡ before o k (entries c) → j ≡ before o k (entries c) + hit k (drop (before o k (entries c)) (entries c))
      → head_of m (count c + 1 - (j - i)) ++ (part 4 (8 * i) c ++ (entry_bytes (k, v) ++ (part (4 + 8 * j) (8 * (count c - j)) c ++ drop (4 + 8 * (count c + 1 - (j - i))) c))) ≡ renew m (put o k v (entries c)) c
  unfolding renew
  renew-put o t m k v i j ei ej =
      let w = before-within o k (entries c) in
      let h = hit-small k (drop (before o k (entries c)) (entries c)) in
      let le = length-entries in
      let is : j ≤ count c = omega arith in
      let bl : length (put o k v (entries c)) ≡ count c + 1 - (j - i) = put-length o t k v (entries c) ∙ omega arith in
      let lay : put o k v (entries c) ≡ take i (entries c) ++ ((k, v) ∷ drop j (entries c)) = put_is o t k v (entries c) ∙ ap₂ (λ x y. take x (entries c) ++ ((k, v) ∷ drop y (entries c))) (sym ei) (sym ej) in
      let body : entries_bytes (put o k v (entries c)) ≡ part 4 (8 * i) c ++ (entry_bytes (k, v) ++ part (4 + 8 * j) (8 * (count c - j)) c) =
      ap entries_bytes lay ∙ entries_bytes-append (take i (entries c)) ((k, v) ∷ drop j (entries c)) ∙ ap₂ ◌++◌ (bytes-front i (omega arith)) (ap (λ x. entry_bytes (k, v) ++ x) (bytes_back j (8 * (count c - j)) is refl)) in
      let none : 8 * (count c - (count c + 1 - (j - i))) ≡ 0 = omega arith in
      let most : max (count c + 1 - (j - i)) (count c) ≡ count c + 1 - (j - i) = omega arith in
      sym (ap (λ n. head_of m n ++ (entries_bytes (put o k v (entries c)) ++ (replicate (8 * (count c - n)) 0 ++ drop (4 + 8 * max n (count c)) c))) bl
      ∙ ap₂ (λ x y. head_of m (count c + 1 - (j - i)) ++ (entries_bytes (put o k v (entries c)) ++ (replicate x 0 ++ drop (4 + 8 * y) c))) none most
      ∙ ap (λ x. head_of m (count c + 1 - (j - i)) ++ (x ++ drop (4 + 8 * (count c + 1 - (j - i))) c)) body
      ∙ ap (λ x. head_of m (count c + 1 - (j - i)) ++ x) (joined (part 4 (8 * i) c) (entry_bytes (k, v)) (part (4 + 8 * j) (8 * (count c - j)) c) (drop (4 + 8 * (count c + 1 - (j - i))) c)))
    where
      joined : (w x y z : List ℕ) → (w ++ (x ++ y)) ++ z ≡ w ++ (x ++ (y ++ z))
      joined w x y z = simp append_assoc

  -- the lower half
  pub renew-shrink : count c ≡ 26 → head_of 1 13 ++ (part 4 104 c ++ (replicate 104 0 ++ drop 212 c)) ≡ renew 1 (take 13 (entries c)) c
  unfolding renew
  renew-shrink full =
      let le = length-entries in
      let lt : length (take 13 (entries c)) ≡ 13 = simp length-take (omega arith) in
      let body : entries_bytes (take 13 (entries c)) ≡ part 4 104 c = bytes-front 13 (omega arith) in
      sym (ap₂ (λ n k. head_of 1 n ++ (entries_bytes (take 13 (entries c)) ++ (replicate (8 * (k - n)) 0 ++ drop (4 + 8 * max n k) c))) lt full
      ∙ ap (λ x. head_of 1 13 ++ (x ++ (replicate 104 0 ++ drop 212 c))) body)

  -- a root of two entries
  pub renew-plant : (x y : ℕ) → count c ≡ 26 → head_of 2 2 ++ (entry_bytes (x, 1) ++ (entry_bytes (y, 2) ++ (replicate 192 0 ++ drop 212 c))) ≡ renew 2 ((x, 1) ∷ ((y, 2) ∷ [])) c
  unfolding renew
  renew-plant x y full = sym (ap (λ k. head_of 2 2 ++ (entries_bytes ((x, 1) ∷ ((y, 2) ∷ [])) ++ (replicate (8 * (k - 2)) 0 ++ drop (4 + 8 * max 2 k) c))) full)

  renew-blank : (es : List Entry) (bs : List ℕ) → length es ≡ 13 → entries_bytes es ≡ bs → head_of 1 13 ++ (bs ++ replicate 116 0) ≡ renew 1 es blank
  unfolding renew blank
  renew-blank es bs l body =
      sym (ap (λ n. head_of 1 n ++ (entries_bytes es ++ (replicate (8 * (0 - n)) 0 ++ drop (4 + 8 * max n 0) (replicate 224 0)))) l
      ∙ ap (λ x. head_of 1 13 ++ (x ++ replicate 116 0)) body)

  -- 13 entries from number i on
  pub renew-half : (i : ℕ) → i ≤ 13 → count c ≡ 26 → head_of 1 13 ++ (part (4 + 8 * i) 104 c ++ replicate 116 0) ≡ renew 1 (take 13 (drop i (entries c))) blank
  unfolding entries
  renew-half i l full =
      let le = length-entries in
      let some : take 13 (drop i (entries c)) ≡ entries_of 13 (drop (4 + 8 * i) c) =
      ap (take 13) (drop-entries_of i (count c) (drop 4 c) ∙ ap (entries_of (count c - i)) (drop-drop (8 * i) 4 c)) ∙ take-entries_of 13 (count c - i) (drop (4 + 8 * i) c) (omega arith) in
      let body : entries_bytes (take 13 (drop i (entries c))) ≡ part (4 + 8 * i) 104 c =
      ap entries_bytes some ∙ bytes-entries_of 13 (drop (4 + 8 * i) c) (simp length-drop (omega arith)) (All-drop (λ b. b < 256) (4 + 8 * i) c all) in
      renew-blank (take 13 (drop i (entries c))) (part (4 + 8 * i) 104 c) (simp (length-take, length-drop) (omega arith)) body

-- the entries of a page from number i on
pub drop-entries : (c : List ℕ) (n i : ℕ) → n ≡ count c → drop i (entries c) ≡ from c n i
unfolding entries
drop-entries c n i e = drop-entries_of i (count c) (drop 4 c) ∙ ap₂ (λ m t. entries_of (m - i) t) (sym e) (drop-drop (8 * i) 4 c)

pub hit-past : (c : List ℕ) (n i k : ℕ) → n ≡ count c → n ≤ i → 0 ≡ hit k (drop i (entries c))
hit-past c n i k e l = sym (ap (hit k) (drop-entries c n i e ∙ from-none c n i l))

pub hit-here : (c : List ℕ) (n i k x : ℕ) → n ≡ count c → i < n → x ≡ (entry_at c i).0 → cond (x == k) 1 0 ≡ hit k (drop i (entries c))
hit-here c n i k x e l ex = sym (ap (hit k) (drop-entries c n i e ∙ from_more c n i l) ∙ ap (λ y. cond (y == k) 1 0) (sym ex))

-- a test as a number
pub byte_is : (b : Bool) → bool_byte b ≡ cond b 1 0
byte_is true = refl
byte_is false = refl

-- two pages side by side
pub two-pages : (k : ℕ) (new x y : List ℕ) → length new ≡ k + k → length x ≡ k → put_mid k k (x ++ post_of 0 k new) y ≡ x ++ y
two-pages k new x y ln lx =
    let front : take k (x ++ post_of 0 k new) ≡ x = take_at x (post_of 0 k new) k lx in
    let back : drop k (drop k (x ++ post_of 0 k new)) ≡ [] = ap (drop k) (drop_at x (post_of 0 k new) k lx) ∙ drop_all k (drop k new) (simp length-drop (omega arith)) in
    ap₂ ◌++◌ front (ap (λ t. y ++ t) back ∙ append-nil y)
