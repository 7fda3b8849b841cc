-- Blocks and what they say, both ways; and a block written front to back.
use Rattle.std.proofs.Common.{◌≡◌, ℕ, zero, suc, ◌+◌, ◌-◌, ◌^◌, ◌<◌, ◌≤◌, true, not, ◌&&◌, eqb, leb, List, [], ◌∷◌, ◌++◌, length, get_or, take, drop, set, replicate, Some, None, codes, sym, refl, ap, ◌∙◌, ap₂, arith}
use borrow.Rule.Slice.PartMut.{put_mid}
use Rattle.std.specs.List.{AllByRecursion}
use Rattle.std.proofs.ByRecursion.{All-take, All-drop}
use Rattle.std.proofs.lemmas.List.{append_assoc, length-take, length-drop, length-append, length-replicate, take-append-drop, take_all, take_at, drop_at, drop-drop, drop_more, drop-replicate, get_or_at, set_at}
use Rattle.std.proofs.lemmas.Bool.{and_parts, and_from, eqb-true, eq-eqb, leb-true, le-leb, cond-true}
use Rattle.std.proofs.lemmas.Option.{cond_some}
use Rattle.sets.specs.Words.{number, bytes_of, part, over}
use Rattle.sets.proofs.WordLaws.{bytes-length, number-bytes, bytes-number}
use Rattle.logblocks.specs.Blocks.{Entry, zeros, same, block_of, is_record_block, entry_of, record_in, header_of, is_header_block, header_in}

-- ---- zeros, and the same bytes

pub zeros-only : (xs : List ℕ) → zeros xs ≡ true → replicate (length xs) 0 ≡ xs
zeros-only [] e = refl
zeros-only (x ∷ xs) e =
    let both = and_parts (eqb x 0) (zeros xs) e in
    ap₂ ◌∷◌ (sym (eqb-true x 0 both.0)) (zeros-only xs both.1)

pub zeros-replicate : (n : ℕ) → zeros (replicate n 0) ≡ true
zeros-replicate zero = refl
zeros-replicate (suc n) = zeros-replicate n

pub same-only : (xs ys : List ℕ) → same xs ys ≡ true → xs ≡ ys
same-only [] [] e = refl
same-only [] (y ∷ ys) e = let z : ◌≡◌ {A = ℕ} 0 1 = cc in absurd (omega arith)
same-only (x ∷ xs) [] e = let z : ◌≡◌ {A = ℕ} 0 1 = cc in absurd (omega arith)
same-only (x ∷ xs) (y ∷ ys) e =
    let both = and_parts (eqb x y) (same xs ys) e in
    ap₂ ◌∷◌ (eqb-true x y both.0) (same-only xs ys both.1)

-- ---- a block in parts

-- a part and what lies behind it
rejoin : (a k b : ℕ) (bs rest : List ℕ) → b ≡ a + k → rest ≡ drop b bs → part a k bs ++ rest ≡ drop a bs
rejoin a k b bs rest e r =
    ap (λ t. part a k bs ++ t) (r ∙ ap (λ j. drop j bs) e ∙ sym (drop-drop k a bs)) ∙ take-append-drop k (drop a bs)

part_length : (a k : ℕ) (bs : List ℕ) → a + k ≤ length bs → length (part a k bs) ≡ k
part_length a k bs l = simp (length-take, length-drop) (omega arith)

part_bytes : (a k : ℕ) (bs : List ℕ) → AllByRecursion (λ b. b < 256) bs → AllByRecursion (λ b. b < 256) (part a k bs)
part_bytes a k bs all = All-take (λ b. b < 256) k (drop a bs) (All-drop (λ b. b < 256) a bs all)

part-word : (a k : ℕ) (bs : List ℕ) → a + k ≤ length bs → AllByRecursion (λ b. b < 256) bs → bytes_of k (number (part a k bs)) ≡ part a k bs
part-word a k bs l all = bytes-number k (part a k bs) (part_length a k bs l) (part_bytes a k bs all)

-- the part behind p
part_at : (p q r : List ℕ) (a k : ℕ) → length p ≡ a → length q ≡ k → part a k (p ++ (q ++ r)) ≡ q
part_at p q r a k lp lq = ap (take k) (drop_at p (q ++ r) a lp) ∙ take_at q r k lq

-- ---- records

-- what a block says is written as that block
pub record_back : (bs : List ℕ) → AllByRecursion (λ b. b < 256) bs → is_record_block bs ≡ true → block_of (entry_of bs) ≡ bs
unfolding block_of
record_back bs all is =
    let p = and_parts (eqb (length bs) 256) (leb (get_or bs 20 0) 232 && zeros (drop (21 + get_or bs 20 0) bs)) is in
    let q = and_parts (leb (get_or bs 20 0) 232) (zeros (drop (21 + get_or bs 20 0) bs)) p.1 in
    go bs (get_or bs 20 0) 4 12 20 21 refl refl refl refl refl (eqb-true (length bs) 256 p.0) (leb-true (get_or bs 20 0) 232 q.0) q.1 all
  where
    go : (bs : List ℕ) (n a b c d : ℕ) → a ≡ 4 → b ≡ 12 → c ≡ 20 → d ≡ 21 → get_or bs c 0 ≡ n → length bs ≡ 256 → n ≤ 232 → zeros (drop (d + n) bs) ≡ true → AllByRecursion (λ b. b < 256) bs
        → (bytes_of 4 (number (part 0 4 bs)) ++ (bytes_of 8 (number (part a 8 bs)) ++ bytes_of 8 (number (part b 8 bs)))) ++ (length (part d n bs) ∷ (part d n bs ++ replicate (235 - length (part d n bs)) 0)) ≡ bs
    go bs n a b c d ea eb ec ed g len le z all =
        let ln : length (part d n bs) ≡ n = part_length d n bs (omega arith) in
        let w0 = part-word 0 4 bs (omega arith) all in
        let w1 = part-word a 8 bs (omega arith) all in
        let w2 = part-word b 8 bs (omega arith) all in
        let lz : length (drop (d + n) bs) ≡ 235 - length (part d n bs) = simp length-drop (omega arith) in
        let tail : replicate (235 - length (part d n bs)) 0 ≡ drop (d + n) bs = ap (λ k. replicate k 0) (sym lz) ∙ zeros-only (drop (d + n) bs) z in
        let r4 : part d n bs ++ replicate (235 - length (part d n bs)) 0 ≡ drop d bs = rejoin d n (d + n) bs (replicate (235 - length (part d n bs)) 0) refl tail in
        let e1 : c + 1 ≡ d = omega arith in
        let r3 : length (part d n bs) ∷ (part d n bs ++ replicate (235 - length (part d n bs)) 0) ≡ drop c bs = ap₂ ◌∷◌ (ln ∙ sym g) (r4 ∙ ap (λ j. drop j bs) (sym e1)) ∙ sym (drop_more bs c 0 (omega arith)) in
        append_assoc (bytes_of 4 (number (part 0 4 bs))) (bytes_of 8 (number (part a 8 bs)) ++ bytes_of 8 (number (part b 8 bs))) (length (part d n bs) ∷ (part d n bs ++ replicate (235 - length (part d n bs)) 0))
        ∙ ap₂ ◌++◌ w0 (append_assoc (bytes_of 8 (number (part a 8 bs))) (bytes_of 8 (number (part b 8 bs))) (length (part d n bs) ∷ (part d n bs ++ replicate (235 - length (part d n bs)) 0))
        ∙ ap₂ ◌++◌ w1 (ap₂ ◌++◌ w2 r3 ∙ rejoin b 8 c bs (drop c bs) (omega arith) refl) ∙ rejoin a 8 b bs (drop b bs) (omega arith) refl)
        ∙ rejoin 0 4 a bs (drop a bs) (omega arith) refl

pub read_back : (bs : List ℕ) → AllByRecursion (λ b. b < 256) bs → (e : Entry) → record_in bs ≡ Some e → block_of e ≡ bs
read_back bs all e r =
    let two = cond_some (is_record_block bs) (entry_of bs) e r in
    ap block_of (sym two.1) ∙ record_back bs all two.0

-- a block in its parts, and what it reads as
module _ (q0 q1 q2 body z : List ℕ) (l0 : length q0 ≡ 4) (l1 : length q1 ≡ 8) (l2 : length q2 ≡ 8) (few : length body ≤ 232) (lz : length z ≡ 235 - length body) (iz : zeros z ≡ true) where
  reads-parts : (bs : List ℕ) (a b c d m : ℕ) → a ≡ 4 → b ≡ 12 → c ≡ 20 → d ≡ 21 → m ≡ length body → bs ≡ (q0 ++ (q1 ++ q2)) ++ (m ∷ (body ++ z))
      → (length bs ≡ 256) × (get_or bs c 0 ≡ m) × (part 0 4 bs ≡ q0) × (part a 8 bs ≡ q1) × (part b 8 bs ≡ q2) × (part d m bs ≡ body) × (drop (d + m) bs ≡ z)
  reads-parts bs a b c d m ea eb ec ed em e =
      let whole : length bs ≡ 256 = ap length e ∙ simp length-append (omega arith) in
      let lh : length (q0 ++ (q1 ++ q2)) ≡ c = simp length-append (omega arith) in
      let e0 : bs ≡ q0 ++ ((q1 ++ q2) ++ (m ∷ (body ++ z))) = e ∙ append_assoc q0 (q1 ++ q2) (m ∷ (body ++ z)) in
      let e1 : bs ≡ q0 ++ (q1 ++ (q2 ++ (m ∷ (body ++ z)))) = e0 ∙ ap (λ t. q0 ++ t) (append_assoc q1 q2 (m ∷ (body ++ z))) in
      let e2 : bs ≡ (q0 ++ q1) ++ (q2 ++ (m ∷ (body ++ z))) = e1 ∙ sym (append_assoc q0 q1 (q2 ++ (m ∷ (body ++ z)))) in
      let e3 : bs ≡ ((q0 ++ (q1 ++ q2)) ++ (m ∷ [])) ++ (body ++ z) = e ∙ sym (append_assoc (q0 ++ (q1 ++ q2)) (m ∷ []) (body ++ z)) in
      let e4 : bs ≡ (((q0 ++ (q1 ++ q2)) ++ (m ∷ [])) ++ body) ++ z = e3 ∙ sym (append_assoc ((q0 ++ (q1 ++ q2)) ++ (m ∷ [])) body z) in (
        whole,
        ap (λ t. get_or t c 0) e ∙ get_or_at (q0 ++ (q1 ++ q2)) m (body ++ z) 0 c lh,
        ap (part 0 4) e0 ∙ part_at [] q0 ((q1 ++ q2) ++ (m ∷ (body ++ z))) 0 4 refl l0,
        ap (part a 8) e1 ∙ part_at q0 q1 (q2 ++ (m ∷ (body ++ z))) a 8 (l0 ∙ sym ea) l1,
        ap (part b 8) e2 ∙ part_at (q0 ++ q1) q2 (m ∷ (body ++ z)) b 8 (simp length-append (omega arith)) l2,
        ap (part d m) e3 ∙ part_at ((q0 ++ (q1 ++ q2)) ++ (m ∷ [])) body z d m (simp length-append (omega arith)) (sym em),
        ap (drop (d + m)) e4 ∙ drop_at (((q0 ++ (q1 ++ q2)) ++ (m ∷ [])) ++ body) z (d + m) (simp length-append (omega arith)),
      )

  reads_as : (bs : List ℕ) → bs ≡ (q0 ++ (q1 ++ q2)) ++ (length body ∷ (body ++ z))
      → record_in bs ≡ Some (record { number = number q0; reads = number q1; writes = number q2; body = body })
  reads_as bs e =
      let f = reads-parts bs 4 12 20 21 (length body) refl refl refl refl refl e in
      let g : get_or bs 20 0 ≡ length body = f.1 in
      let end : drop (21 + get_or bs 20 0) bs ≡ z = ap (λ m. drop (21 + m) bs) g ∙ f.6 in
      let le : get_or bs 20 0 ≤ 232 = omega arith in
      let is : is_record_block bs ≡ true = and_from (eqb (length bs) 256) (leb (get_or bs 20 0) 232 && zeros (drop (21 + get_or bs 20 0) bs)) (eq-eqb (length bs) 256 f.0) (and_from (leb (get_or bs 20 0) 232) (zeros (drop (21 + get_or bs 20 0) bs)) (le-leb (get_or bs 20 0) 232 le) (ap zeros end ∙ iz)) in
      let eb : part 21 (get_or bs 20 0) bs ≡ body = ap (λ m. part 21 m bs) g ∙ f.5 in
      cond-true (is_record_block bs) (Some (entry_of bs)) None is
      ∙ (λ i. Some (record { number = number (f.2 i); reads = number (f.3 i); writes = number (f.4 i); body = eb i }))

-- what is written reads as what it says
pub write-back : (e : Entry) → e.number < 2 ^ 32 → e.reads < 2 ^ 64 → e.writes < 2 ^ 64 → length e.body ≤ 232 → record_in (block_of e) ≡ Some e
unfolding block_of
write-back e hn hr hw hb =
    reads_as (bytes_of 4 e.number) (bytes_of 8 e.reads) (bytes_of 8 e.writes) e.body (replicate (235 - length e.body) 0)
    (bytes-length 4 e.number) (bytes-length 8 e.reads) (bytes-length 8 e.writes) hb (length-replicate (235 - length e.body) 0) (zeros-replicate (235 - length e.body)) (block_of e) refl
    ∙ (λ i. Some (record { number = number-bytes 4 e.number hn i; reads = number-bytes 8 e.reads hr i; writes = number-bytes 8 e.writes hw i; body = e.body }))

-- ---- the header

pub header-back : (bs : List ℕ) → AllByRecursion (λ b. b < 256) bs → (n : ℕ) → header_in bs ≡ Some n → header_of n ≡ bs
unfolding header_of
header-back bs all n r =
    let two = cond_some (is_header_block bs) (number (part 4 4 bs)) n r in
    ap header_of (sym two.1) ∙ whole two.0
  where
    go : (m a b k : ℕ) → m ≡ length bs → m ≡ 256 → a ≡ 4 → b ≡ 8 → k ≡ 248 → same (take a bs) (codes "LTR1") ≡ true → zeros (drop b bs) ≡ true
        → codes "LTR1" ++ (bytes_of 4 (number (part a 4 bs)) ++ replicate k 0) ≡ bs
    go m a b k em e6 ea eb ek t z =
        let lz : length (drop b bs) ≡ k = simp length-drop (omega arith) in
        let tail : replicate k 0 ≡ drop b bs = ap (λ j. replicate j 0) (sym lz) ∙ zeros-only (drop b bs) z in
        ap₂ ◌++◌ (sym (same-only (take a bs) (codes "LTR1") t)) (ap₂ ◌++◌ (part-word a 4 bs (omega arith) all) tail ∙ rejoin a 4 b bs (drop b bs) (omega arith) refl)
        ∙ take-append-drop a bs

    whole : is_header_block bs ≡ true → header_of (number (part 4 4 bs)) ≡ bs
    whole is =
        let p = and_parts (eqb (length bs) 256) (same (take 4 bs) (codes "LTR1") && (not (eqb (number (part 4 4 bs)) 0) && zeros (drop 8 bs))) is in
        let q = and_parts (same (take 4 bs) (codes "LTR1")) (not (eqb (number (part 4 4 bs)) 0) && zeros (drop 8 bs)) p.1 in
        let s = and_parts (not (eqb (number (part 4 4 bs)) 0)) (zeros (drop 8 bs)) q.1 in
        go (length bs) 4 8 248 refl (eqb-true (length bs) 256 p.0) refl refl refl q.0 s.1

-- ---- a block written front to back: what is written so far, and zeros

pub lay : (p w bs : List ℕ) (at k j : ℕ) → bs ≡ p ++ replicate k 0 → length p ≡ at → k ≡ length w + j → over at w bs ≡ (p ++ w) ++ replicate j 0
lay p w bs at k j e lp lw =
    let lb : length bs - at ≡ k = ap (λ t. length t - at) e ∙ simp (length-append, length-replicate) (omega arith) in
    let front : take at bs ≡ p = ap (take at) e ∙ take_at p (replicate k 0) at lp in
    let mid : take (length bs - at) w ≡ w = take_all (length bs - at) w (omega arith) in
    let past : length (p ++ replicate (length w) 0) ≡ at + length w = simp (length-append, length-replicate) (omega arith) in
    let rest : drop at bs ≡ replicate k 0 = ap (drop at) e ∙ drop_at p (replicate k 0) at lp in
    let kj : k - length w ≡ j = omega arith in
    let back : drop (at + length w) bs ≡ replicate j 0 = sym (drop-drop (length w) at bs) ∙ ap (drop (length w)) rest ∙ drop-replicate (length w) k 0 ∙ ap (λ i. replicate i 0) kj in
    ap₂ ◌++◌ front (ap₂ ◌++◌ mid back) ∙ sym (append_assoc p w (replicate j 0))

pub lay-byte : (p bs : List ℕ) (at k v : ℕ) → bs ≡ p ++ replicate (suc k) 0 → length p ≡ at → set bs at v ≡ (p ++ (v ∷ [])) ++ replicate k 0
lay-byte p bs at k v e lp = ap (λ t. set t at v) e ∙ set_at p 0 (replicate k 0) v at lp ∙ sym (append_assoc p (v ∷ []) (replicate k 0))

pub lay-part : (p w bs : List ℕ) (at m k j : ℕ) → bs ≡ p ++ replicate k 0 → length p ≡ at → m ≡ length w → k ≡ length w + j → put_mid at m bs w ≡ (p ++ w) ++ replicate j 0
lay-part p w bs at m k j e lp em lw =
    let front : take at bs ≡ p = ap (take at) e ∙ take_at p (replicate k 0) at lp in
    let rest : drop at bs ≡ replicate k 0 = ap (drop at) e ∙ drop_at p (replicate k 0) at lp in
    let kj : k - m ≡ j = omega arith in
    let back : drop m (drop at bs) ≡ replicate j 0 = ap (drop m) rest ∙ drop-replicate m k 0 ∙ ap (λ i. replicate i 0) kj in
    ap₂ ◌++◌ front (ap (λ t. w ++ t) back) ∙ sym (append_assoc p w (replicate j 0))

-- a record's block, as it is written
pub laid_out : (e : Entry) (bs : List ℕ) → bs ≡ (((((([] ++ bytes_of 4 e.number) ++ bytes_of 8 e.reads) ++ bytes_of 8 e.writes) ++ (length e.body ∷ [])) ++ e.body) ++ replicate (235 - length e.body) 0) → bs ≡ block_of e
unfolding block_of
laid_out e bs h = h ∙ joined (bytes_of 4 e.number) (bytes_of 8 e.reads) (bytes_of 8 e.writes) (length e.body) e.body (replicate (235 - length e.body) 0)
  where
    joined : (a b d : List ℕ) (n : ℕ) (x z : List ℕ) → ((((a ++ b) ++ d) ++ (n ∷ [])) ++ x) ++ z ≡ (a ++ (b ++ d)) ++ (n ∷ (x ++ z))
    joined a b d n x z = simp append_assoc

pub write-record : (e : Entry) (s0 s1 s2 s3 s4 w : List ℕ) (m : ℕ) → length e.body ≤ 232 → m ≡ length e.body → w ≡ e.body → s0 ≡ replicate 256 0
    → s1 ≡ over 0 (bytes_of 4 e.number) s0 → s2 ≡ over 4 (bytes_of 8 e.reads) s1 → s3 ≡ over 12 (bytes_of 8 e.writes) s2 → s4 ≡ set s3 20 (length e.body)
    → put_mid 21 m s4 w ≡ block_of e
write-record e s0 s1 s2 s3 s4 w m few em ew e0 e1 e2 e3 e4 =
    go (bytes_of 4 e.number) (bytes_of 8 e.reads) (bytes_of 8 e.writes) (bytes-length 4 e.number) (bytes-length 8 e.reads) (bytes-length 8 e.writes) 4 12 20 21 256 refl refl refl refl refl e0 e1 e2 e3 e4 (laid_out e)
  where
    go : (a b d : List ℕ) → length a ≡ 4 → length b ≡ 8 → length d ≡ 8 → (p q r t n : ℕ) → p ≡ 4 → q ≡ 12 → r ≡ 20 → t ≡ 21 → n ≡ 256
        → s0 ≡ replicate n 0 → s1 ≡ over 0 a s0 → s2 ≡ over p b s1 → s3 ≡ over q d s2 → s4 ≡ set s3 r (length e.body)
        → ((bs : List ℕ) → bs ≡ ((((([] ++ a) ++ b) ++ d) ++ (length e.body ∷ [])) ++ e.body) ++ replicate (235 - length e.body) 0 → bs ≡ block_of e)
        → put_mid t m s4 w ≡ block_of e
    go a b d la lb ld p q r t n ep eq er et en z0 z1 z2 z3 z4 k =
        let x1 : s1 ≡ ([] ++ a) ++ replicate 252 0 = z1 ∙ lay [] a s0 0 n 252 z0 refl (omega arith) in
        let x2 : s2 ≡ (([] ++ a) ++ b) ++ replicate 244 0 = z2 ∙ lay ([] ++ a) b s1 p 252 244 x1 (omega arith) (omega arith) in
        let x3 : s3 ≡ ((([] ++ a) ++ b) ++ d) ++ replicate 236 0 = z3 ∙ lay (([] ++ a) ++ b) d s2 q 244 236 x2 (simp length-append (omega arith)) (omega arith) in
        let x4 : s4 ≡ (((([] ++ a) ++ b) ++ d) ++ (length e.body ∷ [])) ++ replicate 235 0 = z4 ∙ lay-byte ((([] ++ a) ++ b) ++ d) s3 r 235 (length e.body) x3 (simp length-append (omega arith)) in
        k (put_mid t m s4 w) (ap (put_mid t m s4) ew ∙ lay-part (((([] ++ a) ++ b) ++ d) ++ (length e.body ∷ [])) e.body s4 t m 235 (235 - length e.body) x4 (simp length-append (omega arith)) em (omega arith))
