-- The laws of sets of pages. Only this file looks at bits.
use Rattle.std.proofs.Common.{◌≡◌, ℕ, zero, suc, ◌+◌, ◌-◌, ◌*◌, ◌/◌, ◌%◌, ◌^◌, ◌<◌, ◌≤◌, Bool, true, false, cond, not, ◌&&◌, ◌||◌, eqb, ltb, [], ◌∷◌, ◌++◌, length, sym, refl, ap, ◌∙◌, ap₂, inl, inr, pow-suc, zero-add, add-one, one-add, arith, pow_mono, shr-shr, shr_lt}
use mathlib.Core.Path.{fun_ext}
use Rattle.std.specs.List.{AllByRecursion}
use Rattle.std.proofs.lemmas.List.{length-append}
use Rattle.std.proofs.ByRecursion.{All-append, All-weaker}
use Rattle.std.specs.Bool.{then_some}
use borrow.Author.Tests.{ltb-true, ltb-false}
use lib.Bits.{bit_and, bit_or, bit_xor, and_le_l, and_shr, or_shr, xor_shr, and_mod, or_mod, xor_mod}
use lib.Count.{ones, ones_step, count_trailing_zeros, under}
use lib.Dec.{eqb-zero-suc, eqb-suc-zero, eqb-suc-suc}
use Rattle.std.proofs.lemmas.Bool.{cases_lt, cases_eq, both_ways, cond-true, cond-false, cond_both, and_from, and_parts, and_right, lt-ltb, le-ltb}
use Rattle.std.proofs.lemmas.Bool.Decides.{nat_tests}
use Rattle.std.proofs.lemmas.Nat.{one_shl}
use Rattle.sets.specs.Sets.{has, differs, Meet, count, rising, first, lowest, NextPage}

-- page 0, and the pages above it
pub has-zero : (s : ℕ) → has s 0 ≡ eqb (s % 2) 1
unfolding has
has-zero s = let e : s / 1 ≡ s = omega arith in ap (λ x. eqb (x % 2) 1) e

pub has-suc : (s p : ℕ) → has s (suc p) ≡ has (s / 2) p
unfolding has
has-suc s p = ap (λ x. eqb (x % 2) 1) (sym (shr-shr s 1 p ∙ ap (λ k. s / 2 ^ k) (one-add p)))

-- a number of k digits has no page from k on
pub has_above : (k s p : ℕ) → s < 2 ^ k → k ≤ p → has s p ≡ false
unfolding has
has_above k s p below over =
    let m : 2 ^ k ≤ 2 ^ p = pow_mono over in
    let e : 2 ^ (0 + p) ≡ 2 ^ p = ap (λ j. 2 ^ j) (zero-add p) in
    let l : s < 2 ^ (0 + p) = omega arith in
    let z : s / 2 ^ p < 2 ^ 0 = shr_lt 0 p l in
    let n : s / 2 ^ p ≡ 0 = omega arith in
    ap (λ x. eqb (x % 2) 1) n

pub has_within : (s p : ℕ) → s < 2 ^ 64 → has s p ≡ true → p < 64
has_within s p below h =
    elim (cases_lt p 64) [ inl l ↦ l | inr over ↦ absurd (both_ways (has s p) (has_above 64 s p below over) h) ]

-- one digit at a time
module _ (op : ℕ → ℕ → ℕ) (test : Bool → Bool → Bool)
    (shr : (a b k : ℕ) → op a b / 2 ^ k ≡ op (a / 2 ^ k) (b / 2 ^ k))
    (low : (a b k : ℕ) → op a b % 2 ^ k ≡ op (a % 2 ^ k) (b % 2 ^ k))
    (digit : (x y : ℕ) → x < 2 → y < 2 → eqb (op x y) 1 ≡ test (eqb x 1) (eqb y 1)) where
  has-op : (a b p : ℕ) → has (op a b) p ≡ test (has a p) (has b p)
  unfolding has
  has-op a b p =
      ap (λ x. eqb (x % 2) 1) (shr a b p)
      ∙ ap (λ x. eqb x 1) (low (a / 2 ^ p) (b / 2 ^ p) 1)
      ∙ digit (a / 2 ^ p % 2) (b / 2 ^ p % 2) (omega arith) (omega arith)

or-digit : (x y : ℕ) → x < 2 → y < 2 → eqb (bit_or x y) 1 ≡ (eqb x 1 || eqb y 1)
or-digit zero zero _ _ = refl
or-digit zero (suc zero) _ _ = refl
or-digit (suc zero) zero _ _ = refl
or-digit (suc zero) (suc zero) _ _ = refl
or-digit (suc (suc x)) y h k = absurd (omega arith)
or-digit zero (suc (suc y)) h k = absurd (omega arith)
or-digit (suc zero) (suc (suc y)) h k = absurd (omega arith)

pub has-or : (a b p : ℕ) → has (bit_or a b) p ≡ (has a p || has b p)
has-or = has-op bit_or ◌||◌ or_shr or_mod or-digit

and-digit : (x y : ℕ) → x < 2 → y < 2 → eqb (bit_and x y) 1 ≡ (eqb x 1 && eqb y 1)
and-digit zero zero _ _ = refl
and-digit zero (suc zero) _ _ = refl
and-digit (suc zero) zero _ _ = refl
and-digit (suc zero) (suc zero) _ _ = refl
and-digit (suc (suc x)) y h k = absurd (omega arith)
and-digit zero (suc (suc y)) h k = absurd (omega arith)
and-digit (suc zero) (suc (suc y)) h k = absurd (omega arith)

pub has-and : (a b p : ℕ) → has (bit_and a b) p ≡ (has a p && has b p)
has-and = has-op bit_and ◌&&◌ and_shr and_mod and-digit

xor_digit : (x y : ℕ) → x < 2 → y < 2 → eqb (bit_xor x y) 1 ≡ differs (eqb x 1) (eqb y 1)
xor_digit zero zero _ _ = refl
xor_digit zero (suc zero) _ _ = refl
xor_digit (suc zero) zero _ _ = refl
xor_digit (suc zero) (suc zero) _ _ = refl
xor_digit (suc (suc x)) y h k = absurd (omega arith)
xor_digit zero (suc (suc y)) h k = absurd (omega arith)
xor_digit (suc zero) (suc (suc y)) h k = absurd (omega arith)

pub has-xor : (a b p : ℕ) → has (bit_xor a b) p ≡ differs (has a p) (has b p)
has-xor = has-op bit_xor differs xor_shr xor_mod xor_digit

-- the complement within k digits
not_digit : (x : ℕ) → x < 2 → eqb (1 - x) 1 ≡ not (eqb x 1)
not_digit zero _ = refl
not_digit (suc zero) _ = refl
not_digit (suc (suc x)) h = absurd (omega arith)

pub has-not : (k s p : ℕ) → s < 2 ^ k → p < k → has (2 ^ k - 1 - s) p ≡ not (has s p)
has-not zero s p below l = absurd (omega arith)
has-not (suc k) s zero below l =
    let two = pow-suc 2 k in
    let e : (2 ^ suc k - 1 - s) % 2 ≡ 1 - s % 2 = omega arith in
    has-zero (2 ^ suc k - 1 - s) ∙ ap (λ x. eqb x 1) e ∙ not_digit (s % 2) (omega arith) ∙ ap not (sym (has-zero s))
has-not (suc k) s (suc p) below l =
    let two = pow-suc 2 k in
    let e : (2 ^ suc k - 1 - s) / 2 ≡ 2 ^ k - 1 - s / 2 = omega arith in
    has-suc (2 ^ suc k - 1 - s) p ∙ ap (λ x. has x p) e ∙ has-not k (s / 2) p (omega arith) (omega arith) ∙ ap not (sym (has-suc s p))

-- the pages of s that are not in t
pub has-less : (s t p : ℕ) → s < 2 ^ 64 → t < 2 ^ 64 → has (bit_and s (18446744073709551615 - t)) p ≡ (has s p && not (has t p))
has-less s t p hs ht = has-and s (18446744073709551615 - t) p ∙ elim (cases_lt p 64) [ inl l ↦ ap (λ x. has s p && x) (has-not 64 t p ht l) | inr over ↦ gone over ]
  where
    gone : 64 ≤ p → (has s p && has (18446744073709551615 - t) p) ≡ (has s p && not (has t p))
    gone over = rw (has_above 64 s p hs over) refl

-- one page
pub has_one : (p q : ℕ) → has (2 ^ p) q ≡ eqb q p
has_one zero zero = has-zero 1
has_one zero (suc q) = has-suc 1 q ∙ has_above 0 0 q (omega arith) (omega arith) ∙ sym (eqb-suc-zero q)
has_one (suc p) zero =
    let two = pow-suc 2 p in
    let e : 2 ^ suc p % 2 ≡ 0 = omega arith in
    has-zero (2 ^ suc p) ∙ ap (λ x. eqb x 1) e ∙ sym (eqb-zero-suc p)
has_one (suc p) (suc q) =
    let two = pow-suc 2 p in
    let e : 2 ^ suc p / 2 ≡ 2 ^ p = omega arith in
    has-suc (2 ^ suc p) q ∙ ap (λ x. has x q) e ∙ has_one p q ∙ sym (eqb-suc-suc q p)

-- a set is determined by its pages
pub set-only : (k s t : ℕ) → s < 2 ^ k → t < 2 ^ k → ((p : ℕ) → has s p ≡ has t p) → s ≡ t
set-only zero s t hs ht e = omega arith
set-only (suc k) s t hs ht e =
    let two = pow-suc 2 k in
    let halves : s / 2 ≡ t / 2 = set-only k (s / 2) (t / 2) (omega arith) (omega arith) (λ p. sym (has-suc s p) ∙ e (suc p) ∙ has-suc t p) in
    let tests : eqb (s % 2) 1 ≡ eqb (t % 2) 1 = sym (has-zero s) ∙ e 0 ∙ has-zero t in
    let lows : s % 2 ≡ t % 2 = digits_same (s % 2) (t % 2) (omega arith) (omega arith) tests in
    omega arith
  where
    digits_same : (x y : ℕ) → x < 2 → y < 2 → eqb x 1 ≡ eqb y 1 → x ≡ y
    digits_same x y hx hy e = grind (arith, nat_tests)

-- the empty set
pub has-none : (p : ℕ) → has 0 p ≡ false
has-none p = has_above 0 0 p (omega arith) (omega arith)

pub none_only : (s : ℕ) → s < 2 ^ 64 → ((p : ℕ) → has s p ≡ false) → s ≡ 0
none_only s h e = set-only 64 s 0 h (omega arith) (λ p. e p ∙ sym (has-none p))

-- ---- how many, and which is the first

pub count_none : (f : ℕ → Bool) → count f 0 ≡ 0
unfolding count
count_none f = refl

pub count-more : (f : ℕ → Bool) (n : ℕ) → count f (n + 1) ≡ count f n + cond (f n) 1 0
unfolding count
count-more f n = ap (count f) (add-one n)

pub count-le : (f : ℕ → Bool) (n : ℕ) → count f n ≤ n
unfolding count
count-le f zero = omega arith
count-le f (suc n) = cond_both (f n) 1 0 (λ x. count f n + x ≤ suc n) (λ _. omega (arith, count-le f n)) (λ _. omega (arith, count-le f n))

pub count-mono : (f : ℕ → Bool) (m n : ℕ) → m ≤ n → count f m ≤ count f n
unfolding count
count-mono f m zero h = let z : m ≡ 0 = omega arith in omega (arith, ap (count f) z)
count-mono f m (suc n) h = elim (cases_lt m (suc n)) [
  | inl l ↦ omega (arith, count-mono f m n (omega arith))
  | inr g ↦ let z : m ≡ suc n = omega arith in omega (arith, ap (count f) z)
]

-- the page 0 apart
count-shift : (f : ℕ → Bool) (n : ℕ) → count f (suc n) ≡ cond (f 0) 1 0 + count (λ p. f (suc p)) n
unfolding count
count-shift f zero = omega arith
count-shift f (suc n) = let e = count-shift f n in omega arith

count_same : (f g : ℕ → Bool) (n : ℕ) → ((p : ℕ) → f p ≡ g p) → count f n ≡ count g n
count_same f g n e = ap (λ h. count h n) (fun_ext e)

digit-test : (x : ℕ) → x < 2 → cond (eqb x 1) 1 0 ≡ x
digit-test zero _ = refl
digit-test (suc zero) _ = refl
digit-test (suc (suc x)) h = absurd (omega arith)

ones_zero : ones 0 ≡ 0
unfolding ones
ones_zero = refl

pub ones_count : (k s : ℕ) → s < 2 ^ k → ones s ≡ count (has s) k
unfolding count
ones_count zero s h = let z : s ≡ 0 = omega arith in ap ones z ∙ ones_zero
ones_count (suc k) s h =
    let two = pow-suc 2 k in
    let low : cond (has s 0) 1 0 ≡ s % 2 = ap (λ b. cond b 1 0) (has-zero s) ∙ digit-test (s % 2) (omega arith) in
    let rest : count (λ p. has s (suc p)) k ≡ count (has (s / 2)) k = count_same (λ p. has s (suc p)) (has (s / 2)) k (has-suc s) in
    let shift = count-shift (has s) k in
    let step = ones_step s in
    let ih = ones_count k (s / 2) (omega arith) in
    omega arith

pub first-le : (f : ℕ → Bool) (p n : ℕ) → (p ≤ first f p n) × (first f p n ≤ p + n)
unfolding first
first-le f p zero = omega arith
first-le f p (suc n) =
    let ih = first-le f (suc p) n in
    cond_both (f p) p (first f (suc p) n) (λ x. (p ≤ x) × (x ≤ p + suc n)) (λ _. omega arith) (λ _. omega arith)

pub first-hit : (f : ℕ → Bool) (p n : ℕ) → first f p n < p + n → f (first f p n) ≡ true
unfolding first
first-hit f p zero = λ h. absurd (omega arith)
first-hit f p (suc n) = go (first-hit f (suc p) n) (f p) refl
  where
    go : (first f (suc p) n < suc p + n → f (first f (suc p) n) ≡ true) → (b : Bool) → f p ≡ b → cond (f p) p (first f (suc p) n) < p + suc n → f (cond (f p) p (first f (suc p) n)) ≡ true
    go ih true e h = rw e e
    go ih false e h = rw e (ih (let z : cond (f p) p (first f (suc p) n) ≡ first f (suc p) n = cond-false (f p) p (first f (suc p) n) e in omega arith))

pub first-least : (f : ℕ → Bool) (p n q : ℕ) → p ≤ q → q < first f p n → f q ≡ false
unfolding first
first-least f p zero q l = λ h. absurd (omega arith)
first-least f p (suc n) q l = go (first-least f (suc p) n q) (f p) refl
  where
    go : (suc p ≤ q → q < first f (suc p) n → f q ≡ false) → (b : Bool) → f p ≡ b → q < cond (f p) p (first f (suc p) n) → f q ≡ false
    go ih true e h = absurd (let z : cond (f p) p (first f (suc p) n) ≡ p = cond-true (f p) p (first f (suc p) n) e in omega arith)
    go ih false e h =
        let z : cond (f p) p (first f (suc p) n) ≡ first f (suc p) n = cond-false (f p) p (first f (suc p) n) e in
        let m : q < first f (suc p) n = omega arith in
        elim (cases_eq q p) [ inl same ↦ rw same e | inr other ↦ ih (omega arith) m ]

first-shift : (f : ℕ → Bool) (p n : ℕ) → first f (suc p) n ≡ suc (first (λ q. f (suc q)) p n)
unfolding first
first-shift f p zero = refl
first-shift f p (suc n) = ap (λ x. cond (f (suc p)) (suc p) x) (first-shift f (suc p) n) ∙ out (f (suc p))
  where
    out : (b : Bool) → cond b (suc p) (suc (first (λ q. f (suc q)) (suc p) n)) ≡ suc (cond b p (first (λ q. f (suc q)) (suc p) n))
    out true = refl
    out false = refl

pub trailing_first : (k s : ℕ) → count_trailing_zeros k s ≡ first (has s) 0 k
unfolding first count_trailing_zeros
trailing_first zero s = refl
trailing_first (suc k) s =
    ap (under (s % 2)) (trailing_first k (s / 2) ∙ ap (λ h. first h 0 k) (sym (fun_ext (has-suc s))))
    ∙ split (s % 2) (first (λ p. has s (suc p)) 0 k) (omega arith)
    ∙ ap (λ x. cond (eqb (s % 2) 1) 0 x) (sym (first-shift (has s) 0 k))
    ∙ ap (λ b. cond b 0 (first (has s) 1 k)) (sym (has-zero s))
  where
    split : (x t : ℕ) → x < 2 → under x t ≡ cond (eqb x 1) 0 (suc t)
    split zero t _ = refl
    split (suc zero) t _ = refl
    split (suc (suc x)) t h = absurd (omega arith)

-- a set with a page has a lowest page
pub lowest-in : (s p : ℕ) → p < 64 → has s p ≡ true → (lowest s ≤ p) × (has s (lowest s) ≡ true)
lowest-in s p l h =
    let m : lowest s ≤ p = elim (cases_lt p (lowest s)) [ inl lt ↦ absurd (both_ways (has s p) (first-least (has s) 0 64 p (omega arith) lt) h) | inr le ↦ le ] in
    (m, first-hit (has s) 0 64 (omega arith))

pub lowest-least : (s q : ℕ) → q < lowest s → has s q ≡ false
lowest-least s q h = first-least (has s) 0 64 q (omega arith) h

-- two sets that do not meet
pub meet-none : (s t : ℕ) → s < 2 ^ 64 → bit_and s t ≡ 0 → Meet s t → ⊥
meet-none s t hs e (p, a, b) = both_ways (has (bit_and s t) p) (ap (λ x. has x p) e ∙ has-none p) (has-and s t p ∙ and_from (has s p) (has t p) a b)

-- a set that is not empty has a page
pub some-page : (s : ℕ) → s < 2 ^ 64 → (s ≡ 0 → ⊥) → (lowest s < 64) × (has s (lowest s) ≡ true)
some-page s small ne =
    elim (cases_lt (lowest s) 64) [
      | inl l ↦ (l, first-hit (has s) 0 64 l)
      | inr over ↦ absurd (ne (none_only s small (λ p. elim (cases_lt p 64) [
        | inl below ↦ lowest-least s p (omega arith)
        | inr above ↦ has_above 64 s p small above
      ])))
    ]

pub meet-some : (s t : ℕ) → s < 2 ^ 64 → (bit_and s t ≡ 0 → ⊥) → Meet s t
meet-some s t hs ne =
    let m = some-page (bit_and s t) (omega (arith, and_le_l s t)) ne in
    let both = and_parts (has s (lowest (bit_and s t))) (has t (lowest (bit_and s t))) (sym (has-and s t (lowest (bit_and s t))) ∙ m.1) in
    (lowest (bit_and s t), both.0, both.1)

-- single page sets, as `1 << p` writes them
pub has-shl : (p q : ℕ) → p < 64 → has (1 * 2 ^ p % 2 ^ 64) q ≡ (eqb q p && ltb p 64)
has-shl p q l = ap (λ x. has x q) (one_shl p 64 l) ∙ has_one p q ∙ sym (ap (λ b. eqb q p && b) (lt-ltb p 64 l) ∙ and-true (eqb q p))
  where
    and-true : (b : Bool) → (b && true) ≡ b
    and-true true = refl
    and-true false = refl

pub has-no_page : (p q : ℕ) → 64 ≤ p → has 0 q ≡ (eqb q p && ltb p 64)
has-no_page p q l = has-none q ∙ sym (and_right (eqb q p) (ltb p 64) (le-ltb p 64 l))

-- ---- the pages of a set, rising

pub rising_none : (f : ℕ → Bool) → rising f 0 ≡ []
unfolding rising
rising_none f = refl

pub rising-more : (f : ℕ → Bool) (n : ℕ) → rising f (n + 1) ≡ rising f n ++ cond (f n) (n ∷ []) []
unfolding rising
rising-more f n = ap (rising f) (add-one n)

-- as many as there are, each of them in the set, and rising
pub rising-count : (f : ℕ → Bool) (n : ℕ) → length (rising f n) ≡ count f n
unfolding rising count
rising-count f zero = refl
rising-count f (suc n) = length-append (rising f n) (cond (f n) (n ∷ []) []) ∙ ap₂ ◌+◌ (rising-count f n) (out (f n))
  where
    out : (t : Bool) → length (cond t (n ∷ []) []) ≡ cond t 1 0
    out true = refl
    out false = refl

pub rising-all : (f : ℕ → Bool) (n : ℕ) → AllByRecursion (λ p. (p < n) × (f p ≡ true)) (rising f n)
unfolding rising
rising-all f zero = tt
rising-all f (suc n) =
    All-append (λ p. (p < suc n) × (f p ≡ true)) (rising f n) (cond (f n) (n ∷ []) [])
    (All-weaker (λ p. (p < n) × (f p ≡ true)) (λ p. (p < suc n) × (f p ≡ true)) (λ p h. (omega arith, h.1)) (rising f n) (rising-all f n))
    (here (f n) refl)
  where
    here : (t : Bool) → f n ≡ t → AllByRecursion (λ p. (p < suc n) × (f p ≡ true)) (cond t (n ∷ []) [])
    here true e = ((omega arith, e), tt)
    here false e = tt

-- ---- the next page from p on

has-shifted : (s p q : ℕ) → has (s / 2 ^ p) q ≡ has s (p + q)
unfolding has
has-shifted s p q = ap (λ x. eqb (x % 2) 1) (shr-shr s p q)

above-gap : (s p : ℕ) (q : ℕ) → p ≤ q → q - p < first (has (s / 2 ^ p)) 0 64 → has s q ≡ false
above-gap s p q l h =
    let e : p + (q - p) ≡ q = omega arith in
    ap (has s) (sym e) ∙ sym (has-shifted s p (q - p)) ∙ first-least (has (s / 2 ^ p)) 0 64 (q - p) (omega arith) h

-- none lies past the last page, or where nothing is left of the set; else it is as far above p as the rest has low zeros
pub next-page : (s p rest : ℕ) → rest ≡ s / 2 ^ p → NextPage s p (then_some (ltb (count_trailing_zeros 64 rest) 64) (p + count_trailing_zeros 64 rest))
next-page s p rest e = rw e (go (ltb (count_trailing_zeros 64 (s / 2 ^ p)) 64) refl)
  where
    t : count_trailing_zeros 64 (s / 2 ^ p) ≡ first (has (s / 2 ^ p)) 0 64
    t = trailing_first 64 (s / 2 ^ p)

    go : (b : Bool) → ltb (count_trailing_zeros 64 (s / 2 ^ p)) 64 ≡ b → NextPage s p (then_some b (p + count_trailing_zeros 64 (s / 2 ^ p)))
    go true h =
        let below : count_trailing_zeros 64 (s / 2 ^ p) < 64 = omega (arith, ltb-true, h) in
        let hit = first-hit (has (s / 2 ^ p)) 0 64 (omega (arith, t)) in
        record {
          from = omega arith;
          found = sym (has-shifted s p (count_trailing_zeros 64 (s / 2 ^ p))) ∙ ap (has (s / 2 ^ p)) t ∙ hit;
          none_between = λ q a b. above-gap s p q a (omega (arith, t));
        }
    go false h = λ q a b. above-gap s p q a (let over : 64 ≤ count_trailing_zeros 64 (s / 2 ^ p) = omega (arith, ltb-false, h) in omega (arith, t))
