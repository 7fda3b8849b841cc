-- Pages written front to back.
use Rattle.std.proofs.Common.{◌≡◌, ℕ, ◌+◌, ◌-◌, ◌≤◌, List, ◌++◌, length, take, drop, sym, refl, ap, ◌∙◌, ap₂, arith}
use Rattle.std.proofs.lemmas.List.{append_assoc, length-take, length-drop, take_all}
use Rattle.sets.specs.Words.{part}

-- one more piece
pub front-more : (before after f x y : List ℕ) (a b : ℕ) → take (a + length x) after ≡ take a before ++ x → take a before ≡ f → x ≡ y → b ≡ a + length y → take b after ≡ f ++ y
front-more before after f x y a b e h xy eb =
    let n : b ≡ a + length x = eb ∙ ap (λ t. a + length t) (sym xy) in
    ap (λ k. take k after) n ∙ e ∙ ap₂ ◌++◌ h xy

-- the whole page
pub front-all : (after f : List ℕ) (n : ℕ) → length after ≡ n → take n after ≡ f → after ≡ f
front-all after f n l e = sym (take_all n after (omega arith)) ∙ e

-- a part of a page between two places
pub between_part : (a e k : ℕ) (c : List ℕ) → e - a ≡ k → take (e - a) (drop a c) ≡ part a k c
between_part a e k c h = ap (λ j. take j (drop a c)) h

pub part_length : (a k : ℕ) (c : List ℕ) → a + k ≤ length c → length (part a k c) ≡ k
part_length a k c l = simp (length-take, length-drop) (omega arith)

-- to the end
pub part-rest : (a e : ℕ) (c : List ℕ) → length c ≡ e → take (e - a) (drop a c) ≡ drop a c
part-rest a e c l = take_all (e - a) (drop a c) (simp length-drop (omega arith))

-- the pieces of each page
pub halved : (h n1 n2 n3 x2 x3 c : List ℕ) (a s k z : ℕ)
    → length c ≡ 224 → length n3 ≡ 224 → a ≡ 4 → k ≡ 104 → z ≡ 108 → s ≤ 108
    → take a n1 ≡ h
    → take (a + length x2) n2 ≡ take a n1 ++ x2 → x2 ≡ part s k c
    → take (z + length x3) n3 ≡ take z n2 ++ x3 → length x3 ≡ 116
    → n3 ≡ h ++ (part s k c ++ x3)
halved h n1 n2 n3 x2 x3 c a s k z lc ln ea ek ez sl e1 e2 h2 e3 l3 =
    let l2 : length (part s k c) ≡ k = part_length s k c (omega arith) in
    let f2 : take z n2 ≡ h ++ part s k c = front-more n1 n2 h x2 (part s k c) a z e2 e1 h2 (omega arith) in
    let f3 : take 224 n3 ≡ (h ++ part s k c) ++ x3 = front-more n2 n3 (h ++ part s k c) x3 x3 z 224 e3 f2 refl (omega arith) in
    front-all n3 ((h ++ part s k c) ++ x3) 224 ln f3 ∙ append_assoc h (part s k c) x3

pub shrunk : (h n1 n2 n3 n4 x2 x3 x4 c : List ℕ) (a k z y : ℕ)
    → length c ≡ 224 → length n4 ≡ 224 → a ≡ 4 → k ≡ 104 → z ≡ 108 → y ≡ 212
    → take a n1 ≡ h
    → take (a + length x2) n2 ≡ take a n1 ++ x2 → x2 ≡ part a k c
    → take (z + length x3) n3 ≡ take z n2 ++ x3 → length x3 ≡ 104
    → take (y + length x4) n4 ≡ take y n3 ++ x4 → x4 ≡ take (224 - y) (drop y c)
    → n4 ≡ h ++ (part a k c ++ (x3 ++ drop y c))
shrunk h n1 n2 n3 n4 x2 x3 x4 c a k z y lc ln ea ek ez ey e1 e2 h2 e3 l3 e4 h4 =
    let l2 : length (part a k c) ≡ k = part_length a k c (omega arith) in
    let f2 : take z n2 ≡ h ++ part a k c = front-more n1 n2 h x2 (part a k c) a z e2 e1 h2 (omega arith) in
    let f3 : take y n3 ≡ (h ++ part a k c) ++ x3 = front-more n2 n3 (h ++ part a k c) x3 x3 z y e3 f2 refl (omega arith) in
    let p4 : x4 ≡ drop y c = h4 ∙ part-rest y 224 c lc in
    let l4 : length (drop y c) ≡ 224 - y = simp length-drop (omega arith) in
    let f4 : take 224 n4 ≡ ((h ++ part a k c) ++ x3) ++ drop y c = front-more n3 n4 ((h ++ part a k c) ++ x3) x4 (drop y c) y 224 e4 f3 p4 (omega arith) in
    front-all n4 (((h ++ part a k c) ++ x3) ++ drop y c) 224 ln f4 ∙ joined4 h (part a k c) x3 (drop y c)
  where
    joined4 : (v w x y : List ℕ) → ((v ++ w) ++ x) ++ y ≡ v ++ (w ++ (x ++ y))
    joined4 v w x y = simp append_assoc

pub planted : (h e f n1 n2 n3 n4 n5 x4 x5 c : List ℕ) (a y : ℕ)
    → length c ≡ 224 → length n5 ≡ 224 → a ≡ 4 → y ≡ 212 → length e ≡ 8 → length f ≡ 8
    → take a n1 ≡ h
    → take (a + 8) n2 ≡ take a n1 ++ e
    → take (a + 8 + 8) n3 ≡ take (a + 8) n2 ++ f
    → take (a + 16 + length x4) n4 ≡ take (a + 16) n3 ++ x4 → length x4 ≡ 192
    → take (y + length x5) n5 ≡ take y n4 ++ x5 → x5 ≡ take (224 - y) (drop y c)
    → n5 ≡ h ++ (e ++ (f ++ (x4 ++ drop y c)))
planted h e f n1 n2 n3 n4 n5 x4 x5 c a y lc ln ea ey le lf e1 e2 e3 e4 l4 e5 h5 =
    let s2 : a + 8 ≡ a + length e = omega arith in
    let f2 : take (a + 8) n2 ≡ h ++ e = front-more n1 n2 h e e a (a + 8) (ap (λ k. take k n2) (sym s2) ∙ e2) e1 refl (omega arith) in
    let s3 : a + 8 + 8 ≡ a + 8 + length f = omega arith in
    let f3 : take (a + 16) n3 ≡ (h ++ e) ++ f = front-more n2 n3 (h ++ e) f f (a + 8) (a + 16) (ap (λ k. take k n3) (sym s3) ∙ e3) f2 refl (omega arith) in
    let f4 : take y n4 ≡ ((h ++ e) ++ f) ++ x4 = front-more n3 n4 ((h ++ e) ++ f) x4 x4 (a + 16) y e4 f3 refl (omega arith) in
    let p5 : x5 ≡ drop y c = h5 ∙ part-rest y 224 c lc in
    let l5 : length (drop y c) ≡ 224 - y = simp length-drop (omega arith) in
    let f5 : take 224 n5 ≡ (((h ++ e) ++ f) ++ x4) ++ drop y c = front-more n4 n5 (((h ++ e) ++ f) ++ x4) x5 (drop y c) y 224 e5 f4 p5 (omega arith) in
    front-all n5 ((((h ++ e) ++ f) ++ x4) ++ drop y c) 224 ln f5 ∙ joined5 h e f x4 (drop y c)
  where
    joined5 : (v w x y z : List ℕ) → (((v ++ w) ++ x) ++ y) ++ z ≡ v ++ (w ++ (x ++ (y ++ z)))
    joined5 v w x y z = simp append_assoc
