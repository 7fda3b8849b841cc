-- A page of the tree: a mark, a count and entries of a key and a value. Orders on keys are a parameter.
use Rattle.std.specs.Prelude.{ℕ, zero, suc, ◌+◌, ◌-◌, ◌*◌, max, Bool, true, false, cond, not, ◌&&◌, ◌||◌, List, [], ◌∷◌, ◌++◌, length, drop, replicate, Some, None, Option, ◌==◌, nat_le, slice_index}
use Rattle.sets.specs.Words.{number, bytes_of, part}
use Rattle.tree.specs.Orders.{KeyOrdering}

-- a key and its value
abbrev pub Entry : Type 0
Entry = ℕ × ℕ

-- ---- lists of entries

-- the value of a key
abbrev pub find : ℕ → List Entry → Option ℕ
find k [] = None
find k (e ∷ es) = cond (e.0 == k) (Some e.1) (find k es)

-- whether a key is absent
abbrev pub absent : ℕ → List Entry → Bool
absent k [] = true
absent k (e ∷ es) = not (e.0 == k) && absent k es

-- the entries with a key's value replaced, or with the key put in before the first larger one
abbrev pub put : KeyOrdering → ℕ → ℕ → List Entry → List Entry
put o k v [] = (k, v) ∷ []
put o k v (e ∷ es) = cond (e.0 == k) ((k, v) ∷ es) (cond (o.less k e.0) ((k, v) ∷ (e ∷ es)) (e ∷ put o k v es))

-- how many entries stand before the first whose key is not below k
abbrev pub before : KeyOrdering → ℕ → List Entry → ℕ
before o k [] = 0
before o k (e ∷ es) = cond (o.less e.0 k) (suc (before o k es)) 0

-- how many entries at the front have key k: one or none
abbrev pub hit : ℕ → List Entry → ℕ
hit k [] = 0
hit k (e ∷ es) = cond (e.0 == k) 1 0

-- keys rise strictly from above k on
abbrev pub above : KeyOrdering → ℕ → List Entry → Bool
above o k [] = true
above o k (e ∷ es) = o.less k e.0 && above o e.0 es

-- keys rise strictly
abbrev pub rising : KeyOrdering → List Entry → Bool
rising o [] = true
rising o (e ∷ es) = above o e.0 es

-- each value is one of 1 to n, and is none that was seen before: n such values are the numbers 1 to n, each once
abbrev pub fresh : ℕ → (ℕ → Bool) → List Entry → Bool
fresh n seen [] = true
fresh n seen (e ∷ es) = (nat_le 1 e.1 && (nat_le e.1 n && not (seen e.1))) && fresh n (λ v. seen v || v == e.1) es

-- ---- entries in bytes

abbrev pub entry_bytes : Entry → List ℕ
entry_bytes e = bytes_of 4 e.0 ++ bytes_of 4 e.1

abbrev pub entries_bytes : List Entry → List ℕ
entries_bytes [] = []
entries_bytes (e ∷ es) = entry_bytes e ++ entries_bytes es

-- the first n entries that bytes hold
abbrev pub entries_of : ℕ → List ℕ → List Entry
entries_of zero bs = []
entries_of (suc n) bs = (number (part 0 4 bs), number (part 4 4 bs)) ∷ entries_of n (drop 8 bs)

-- the mark of a page, its count and its entries, from byte 4 on
abbrev pub mark : List ℕ → ℕ
mark c = slice_index c 0

abbrev pub count : List ℕ → ℕ
count c = slice_index c 1

unfoldable pub entries : List ℕ → List Entry
entries c = entries_of (count c) (drop 4 c)

-- the bytes before the entries
abbrev pub head_of : ℕ → ℕ → List ℕ
head_of m n = m ∷ (n ∷ (0 ∷ (0 ∷ [])))

-- contents c with a new mark and new entries: zeros where there are fewer entries than before, and the rest as it was
unfoldable pub renew : ℕ → List Entry → List ℕ → List ℕ
renew m es c = head_of m (length es) ++ (entries_bytes es ++ (replicate (8 * (count c - length es)) 0 ++ drop (4 + 8 * max (length es) (count c)) c))

-- ---- forms

-- bytes 2 and 3 are zero, there are at most 26 entries, and keys rise
abbrev pub well_formed : KeyOrdering → List ℕ → Bool
well_formed o c = slice_index c 2 == 0 && (slice_index c 3 == 0 && (nat_le (count c) 26 && rising o (entries c)))

-- a leaf has mark 1; an empty one may have mark 0
abbrev pub leaf_form : KeyOrdering → List ℕ → Bool
leaf_form o c = (mark c == 1 || (mark c == 0 && count c == 0)) && well_formed o c

-- a leaf of 26 entries
abbrev pub full_leaf : KeyOrdering → List ℕ → Bool
full_leaf o c = count c == 26 && leaf_form o c

-- the first key
abbrev pub opening_key : List ℕ → ℕ
opening_key c = number (part 4 4 c)

-- a root has mark 2 and from two entries on; its first key is the least, and its values are the pages 1 to its count, each once
abbrev pub root_form : KeyOrdering → List ℕ → Bool
root_form o c = mark c == 2 && (nat_le 2 (count c) && (opening_key c == o.least && (fresh (count c) (λ _. false) (entries c) && well_formed o c)))

-- key 13, the lowest of the upper half of 26 entries
abbrev pub middle_key : List ℕ → ℕ
middle_key c = number (part 108 4 c)
