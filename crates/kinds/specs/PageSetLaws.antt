-- Sets of pages by a test.
use Rattle.std.specs.Prelude.{◌≡◌, ℕ, zero, suc, ◌+◌, ◌-◌, ◌*◌, ◌/◌, ◌%◌, ◌^◌, ◌<◌, ◌≤◌, min, Bool, true, false, cond, ◌&&◌, ◌||◌, ◌==◌, ◌≢◌, nat_eq, nat_le, nat_lt, refl}
use Rattle.std.proofs.Common.{sym, ap, ◌∙◌, pow-suc, arith}
use Rattle.std.proofs.lemmas.Bool.{cond_both, le-ltb, and_right, lt-ltb}
use Rattle.std.proofs.lemmas.Bool.Decides.{nat_tests}
use Rattle.std.specs.List.{fold, range_with_len}
use Rattle.sets.specs.Sets.{has, count, size, SetOf}
use Rattle.sets.proofs.SetLaws.{has-zero, has-suc, has-none, has_within, set-only}
use Rattle.kinds.specs.PageSets.{gather, set_of, only, both, run}

digit : (b : Bool) (g : ℕ) → ((cond b 1 0 + 2 * g) % 2 == 1) ≡ b
digit true g = let e : (1 + 2 * g) % 2 ≡ 1 = omega arith in ap (λ x. nat_eq x 1) e
digit false g = let e : (0 + 2 * g) % 2 ≡ 0 = omega arith in ap (λ x. nat_eq x 1) e

upper : (b : Bool) (g : ℕ) → (cond b 1 0 + 2 * g) / 2 ≡ g
upper true g = omega arith
upper false g = omega arith

level : (p n : ℕ) → nat_lt p n ≡ nat_lt (suc p) (suc n)
level p n = grind (arith, nat_tests)

gather-has : (f : ℕ → Bool) (n p : ℕ) → has (gather f n) p ≡ (f p && nat_lt p n)
unfolding gather
gather-has f zero p = has-none p ∙ sym (and_right (f p) (nat_lt p 0) (le-ltb p 0 (omega arith)))
gather-has f (suc n) zero = has-zero (gather f (suc n)) ∙ digit (f 0) (gather (λ p. f (suc p)) n) ∙ grind (arith, nat_tests)
gather-has f (suc n) (suc p) = has-suc (gather f (suc n)) p ∙ ap (λ x. has x p) (upper (f 0) (gather (λ p. f (suc p)) n)) ∙ gather-has (λ p. f (suc p)) n p ∙ ap (λ b. f (suc p) && b) (level p n)

gather-below : (f : ℕ → Bool) (n : ℕ) → gather f n < 2 ^ n
unfolding gather
gather-below f zero = omega arith
gather-below f (suc n) =
    let two = pow-suc 2 n in
    let ih = gather-below (λ p. f (suc p)) n in
    cond_both (f 0) 1 0 (λ x. x + 2 * gather (λ p. f (suc p)) n < 2 ^ suc n) (λ _. omega arith) (λ _. omega arith)

pub set-has : (f : ℕ → Bool) (p : ℕ) → has (set_of f) p ≡ (f p && nat_lt p 64)
unfolding set_of
set-has f p = gather-has f 64 p

pub set_below : (f : ℕ → Bool) → set_of f < 2 ^ 64
unfolding set_of
set_below f = gather-below f 64

-- a set is that of a test when its pages pass it
pub set_is : (r : ℕ) (f : ℕ → Bool) → r < 2 ^ 64 → ((p : ℕ) → has r p ≡ (f p && nat_lt p 64)) → r ≡ set_of f
set_is r f small h = set-only 64 r (set_of f) small (set_below f) (λ p. h p ∙ sym (set-has f p))

-- ---- how many

count-below : (f g : ℕ → Bool) (n : ℕ) → ((p : ℕ) → p < n → f p ≡ g p) → count f n ≡ count g n
unfolding count
count-below f g zero e = refl
count-below f g (suc n) e =
    let ih = count-below f g n (λ p l. e p (omega arith)) in
    ap (λ x. x + cond (f n) 1 0) ih ∙ ap (λ b. count g n + cond b 1 0) (e n (omega arith))

pub set-size : (f : ℕ → Bool) → size (set_of f) ≡ count f 64
set-size f = count-below (has (set_of f)) f 64 (λ p l. set-has f p ∙ inside (f p) p l)
  where
    inside : (b : Bool) (p : ℕ) → p < 64 → (b && nat_lt p 64) ≡ b
    inside true p l = lt-ltb p 64 l
    inside false p l = refl

count-only : (p n : ℕ) → count (λ q. nat_eq q p) n ≡ cond (nat_lt p n) 1 0
unfolding count
count-only p zero = grind (arith, nat_tests)
count-only p (suc n) = let ih = count-only p n in grind (arith, nat_tests)

count-both : (a b n : ℕ) → (a ≢ b) → count (λ q. (q == a) || q == b) n ≡ cond (nat_lt a n) 1 0 + cond (nat_lt b n) 1 0
unfolding count
count-both a b zero ne = grind (arith, nat_tests)
count-both a b (suc n) ne = let ih = count-both a b n ne in grind (arith, nat_tests)

count-run : (s c n : ℕ) → count (λ q. nat_le s q && nat_lt q (s + c)) n ≡ min n (s + c) - s
unfolding count
count-run s c zero = omega arith
count-run s c (suc n) = let ih = count-run s c n in grind (arith, nat_tests)

pub size-only : (p : ℕ) → p < 64 → size (only p) ≡ 1
size-only p l = set-size (λ q. nat_eq q p) ∙ count-only p 64 ∙ ap (λ b. cond b 1 0) (lt-ltb p 64 l)

pub size-both : (a b : ℕ) → a < 64 → b < 64 → (a ≢ b) → size (both a b) ≡ 2
size-both a b la lb ne = set-size (λ q. (q == a) || q == b) ∙ count-both a b 64 ne ∙ ap (λ x. cond x 1 0 + cond (nat_lt b 64) 1 0) (lt-ltb a 64 la) ∙ ap (λ x. 1 + cond x 1 0) (lt-ltb b 64 lb)

pub size-run : (s c : ℕ) → s + c ≤ 64 → size (run s c) ≡ c
size-run s c l = set-size (λ q. nat_le s q && nat_lt q (s + c)) ∙ count-run s c 64 ∙ omega arith

pub size_none : size 0 ≡ 0
unfolding count
size_none = count-below (has 0) (λ _. false) 64 (λ p _. has-none p) ∙ none 64
  where
    none : (n : ℕ) → count (λ _. false) n ≡ 0
    none zero = refl
    none (suc n) = let ih = none n in omega arith

-- ---- what the code's unions make

pub only-is : (r p : ℕ) → r < 2 ^ 64 → SetOf r (λ q. (q == p) && nat_lt p 64) → r ≡ only p
only-is r p small h = set_is r (λ q. nat_eq q p) small (λ q. h q ∙ at q)
  where
    at : (q : ℕ) → (q == p && nat_lt p 64) ≡ (q == p && nat_lt q 64)
    at q = grind (arith, nat_tests)

pub both_is : (r s t a b : ℕ) → r < 2 ^ 64 → SetOf s (λ q. (q == a) && nat_lt a 64) → SetOf t (λ q. (q == b) && nat_lt b 64) → SetOf r (λ q. has s q || has t q) → r ≡ both a b
both_is r s t a b small hs ht h = set_is r (λ q. (q == a) || q == b) small (λ q. h q ∙ at q (has s q) (has t q) (hs q) (ht q))
  where
    at : (q : ℕ) (x y : Bool) → x ≡ (q == a && nat_lt a 64) → y ≡ (q == b && nat_lt b 64) → (x || y) ≡ ((q == a || q == b) && nat_lt q 64)
    at q x y ex ey = grind (arith, nat_tests)

-- a set and one page more
abbrev pub with_page : ℕ → ℕ → ℕ
with_page s p = set_of (λ q. has s q || q == p)

pub with_is : (r s t p : ℕ) → r < 2 ^ 64 → s < 2 ^ 64 → SetOf t (λ q. (q == p) && nat_lt p 64) → SetOf r (λ q. has s q || has t q) → r ≡ with_page s p
with_is r s t p small l ht h = set_is r (λ q. has s q || q == p) small (λ q. h q ∙ at q (has s q) (has t q) (inside q (has s q) refl) (ht q))
  where
    inside : (q : ℕ) (b : Bool) → has s q ≡ b → b ≡ (b && nat_lt q 64)
    inside q true e = sym (lt-ltb q 64 (has_within s q l e))
    inside q false e = refl

    at : (q : ℕ) (x y : Bool) → x ≡ (x && nat_lt q 64) → y ≡ (q == p && nat_lt p 64) → (x || y) ≡ ((x || q == p) && nat_lt q 64)
    at q x y ex ey = grind (arith, nat_tests)

same-sets : (f g : ℕ → Bool) → ((q : ℕ) → (f q && nat_lt q 64) ≡ (g q && nat_lt q 64)) → set_of f ≡ set_of g
same-sets f g h = set_is (set_of f) g (set_below f) (λ q. set-has f q ∙ h q)

-- a set and the c pages from s on, one after the other
with-pages : (f : ℕ → Bool) (c s : ℕ) → fold with_page (set_of f) (range_with_len s c) ≡ set_of (λ q. f q || (nat_le s q && nat_lt q (s + c)))
with-pages f zero s = same-sets f (λ q. f q || (nat_le s q && nat_lt q (s + 0))) (λ q. none q)
  where
    none : (q : ℕ) → (f q && nat_lt q 64) ≡ ((f q || (nat_le s q && nat_lt q (s + 0))) && nat_lt q 64)
    none q = grind (arith, nat_tests)
with-pages f (suc c) s =
    ap (λ r. fold with_page r (range_with_len (s + 1) c)) (same-sets (λ q. has (set_of f) q || q == s) (λ q. f q || q == s) (λ q. here q (has (set_of f) q) (set-has f q)))
    ∙ with-pages (λ q. f q || q == s) c (s + 1)
    ∙ same-sets (λ q. (f q || q == s) || (nat_le (s + 1) q && nat_lt q (s + 1 + c))) (λ q. f q || (nat_le s q && nat_lt q (s + suc c))) (λ q. more q)
  where
    here : (q : ℕ) (x : Bool) → x ≡ (f q && nat_lt q 64) → ((x || q == s) && nat_lt q 64) ≡ ((f q || q == s) && nat_lt q 64)
    here q x e = grind (arith, nat_tests)

    more : (q : ℕ) → (((f q || q == s) || (nat_le (s + 1) q && nat_lt q (s + 1 + c))) && nat_lt q 64) ≡ ((f q || (nat_le s q && nat_lt q (s + suc c))) && nat_lt q 64)
    more q = grind (arith, nat_tests)

pub run_is : (s c : ℕ) → fold with_page 0 (range_with_len s c) ≡ run s c
run_is s c = ap (λ r. fold with_page r (range_with_len s c)) (set_is 0 (λ _. false) (omega arith) has-none) ∙ with-pages (λ _. false) c s
