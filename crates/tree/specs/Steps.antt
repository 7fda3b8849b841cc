-- The tree kind: what its bodies say, the pages that they touch, and what they write.
use Rattle.std.specs.Prelude.{◌≡◌, ℕ, ◌+◌, ◌*◌, ◌≤◌, Bool, cond, not, ◌&&◌, List, [], ◌∷◌, ◌++◌, length, take, drop, replicate, Some, None, Ok, Err, Option, Result, ◌==◌, nat_le, slice_index}
use Rattle.sets.specs.Sets.{size}
use Rattle.sets.specs.Words.{number, part}
use Rattle.kinds.specs.Kinds.{Meaning}
use Rattle.kinds.specs.PageSets.{only, both}
use Rattle.tree.specs.declared.step.Step.{Step}
use Rattle.tree.specs.declared.step.Step.TheVariants.{Insert, Lower, Upper, Cut, Grow}
use Rattle.tree.specs.Orders.{KeyOrdering}
use Rattle.tree.specs.Nodes.{put, absent, entries, count, renew, leaf_form, full_leaf, root_form, middle_key}

-- ---- bodies

abbrev pub when : Bool → Step → Option Step
when ok s = cond ok (Some s) None

-- two different pages p and q of 0 to 26, q from 1
abbrev pub page_pair : ℕ → ℕ → Bool
page_pair p q = nat_le p 26 && (nat_le 1 q && (nat_le q 26 && not (p == q)))

abbrev pub insert_from : ℕ → List ℕ → Option Step
insert_from p word = when (nat_le p 26 && length word == 8) (Insert p (number (part 0 4 word)) (number (part 4 4 word)))

-- a body: byte 0 says which step, and the length is exact
unfoldable pub parse : List ℕ → Option Step
parse b =
    cond (slice_index b 0 == 1 && nat_le 2 (length b)) (insert_from (slice_index b 1) (drop 2 b))
    (cond (slice_index b 0 == 2 && length b == 3) (when (page_pair (slice_index b 1) (slice_index b 2)) (Lower (slice_index b 1) (slice_index b 2)))
    (cond (slice_index b 0 == 3 && length b == 3) (when (page_pair (slice_index b 1) (slice_index b 2)) (Upper (slice_index b 1) (slice_index b 2)))
    (cond (slice_index b 0 == 4 && length b == 3) (when (nat_le 1 (slice_index b 1) && page_pair (slice_index b 1) (slice_index b 2)) (Cut (slice_index b 1) (slice_index b 2)))
    (cond (slice_index b 0 == 5 && length b == 1) (Some Grow) None))))

-- the pages read, and the pages written
abbrev pub sets : Step → ℕ × ℕ
sets (Insert p k v) = (only p, only p)
sets (Lower p q) = (only p, only q)
sets (Upper p q) = (only p, only q)
sets (Cut p q) = (both 0 p, both 0 p)
sets Grow = (only 0, only 0)

-- ---- what is written, or a code: 3 where a page has not the form, 4 where a leaf is full

-- the contents of a page of zeros
unfoldable pub blank : List ℕ
blank = replicate 224 0

abbrev pub inserted : KeyOrdering → ℕ → ℕ → List ℕ → Result (List ℕ) ℕ
inserted o k v c = cond (leaf_form o c) (cond (nat_le (length (put o k v (entries c))) 26) (Ok (renew 1 (put o k v (entries c)) c)) (Err 4)) (Err 3)

-- a fresh leaf of the lower half, or of the upper half
abbrev pub lower : KeyOrdering → List ℕ → Result (List ℕ) ℕ
lower o c = cond (full_leaf o c) (Ok (renew 1 (take 13 (entries c)) blank)) (Err 3)

abbrev pub upper : KeyOrdering → List ℕ → Result (List ℕ) ℕ
upper o c = cond (full_leaf o c) (Ok (renew 1 (drop 13 (entries c)) blank)) (Err 3)

-- a fresh leaf of the 13 entries from number i on
abbrev pub half : KeyOrdering → ℕ → List ℕ → Result (List ℕ) ℕ
half o i c = cond (full_leaf o c) (Ok (renew 1 (take 13 (drop i (entries c))) blank)) (Err 3)

-- whether a leaf can be cut and page q put into the root
abbrev pub cut_form : KeyOrdering → ℕ → List ℕ → List ℕ → Bool
cut_form o q root leaf = full_leaf o leaf && (root_form o root && (count root + 1 == q && absent (middle_key leaf) (entries root)))

-- the leaf keeps its lower half, and the root gains the middle key with page q
abbrev pub cut : KeyOrdering → ℕ → List ℕ → List ℕ → Result (List ℕ) ℕ
cut o q root leaf = cond (cut_form o q root leaf) (Ok (renew 2 (put o (middle_key leaf) q (entries root)) root ++ renew 1 (take 13 (entries leaf)) leaf)) (Err 3)

-- a full leaf becomes a root of two entries
abbrev pub grow : KeyOrdering → List ℕ → Result (List ℕ) ℕ
grow o c = cond (full_leaf o c) (Ok (renew 2 ((o.least, 1) ∷ ((middle_key c, 2) ∷ [])) c)) (Err 3)

abbrev pub change : KeyOrdering → Step → List ℕ → Result (List ℕ) ℕ
change o (Insert p k v) old = inserted o k v old
change o (Lower p q) old = lower o old
change o (Upper p q) old = upper o old
change o (Cut p q) old = cut o q (take 224 old) (drop 224 old)
change o Grow old = grow o old

abbrev pub scope_by : Option Step → Result (ℕ × ℕ) ℕ
scope_by (Some s) = Ok (sets s)
scope_by None = Err 1

abbrev pub effect_by : KeyOrdering → Option Step → List ℕ → Result (List ℕ) ℕ
effect_by o (Some s) old = cond (length old == 224 * size (sets s).0) (change o s old) (Err 2)
effect_by o None old = Err 1

-- the tree kind
abbrev pub tree_meaning : KeyOrdering → Meaning
tree_meaning o = record { limit = 2; scope = λ b. scope_by (parse b); effect = λ b old. effect_by o (parse b) old }

-- the lengths of the two buffers with which a step can be taken, and the page that it puts into a root
abbrev pub Ready : Step → ℕ → ℕ → Type 0
Ready (Insert p k v) k' n = (k' ≡ 224) × (n ≡ 224)
Ready (Lower p q) k n = (k ≡ 224) × (n ≡ 224)
Ready (Upper p q) k n = (k ≡ 224) × (n ≡ 224)
Ready (Cut p q) k n = (k ≡ 448) × (n ≡ 448) × (q ≤ 26)
Ready Grow k n = (k ≡ 224) × (n ≡ 224)
