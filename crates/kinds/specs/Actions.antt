-- The page kind: what its bodies say, the pages that they touch, and what they write.
use Rattle.std.specs.Prelude.{◌≡◌, ℕ, ◌+◌, ◌*◌, ◌≤◌, Bool, cond, not, ◌&&◌, ◌||◌, List, ◌++◌, length, take, drop, replicate, Some, None, Ok, Err, Option, Result, ◌==◌, nat_le, nat_lt, slice_index}
use Rattle.sets.specs.Sets.{size}
use Rattle.kinds.specs.Kinds.{Meaning}
use Rattle.kinds.specs.PageSets.{only, both, run}

-- what an operation on pages does
pub data Action : Type 0 where
  -- lays bytes over page p from offset o on
  patch : ℕ → ℕ → List ℕ → Action
  -- fills page p with a byte
  fill : ℕ → ℕ → Action
  -- copies c pages from page s on to page t on
  copy : ℕ → ℕ → ℕ → Action
  -- exchanges pages a and b
  swap : ℕ → ℕ → Action

-- an action that is allowed
abbrev pub when : Bool → Action → Option Action
when ok a = cond ok (Some a) None

abbrev pub patch_of : ℕ → ℕ → List ℕ → Option Action
patch_of p o bytes = when (nat_le p 63 && (nat_lt 0 (length bytes) && nat_le (o + length bytes) 224)) (patch p o bytes)

abbrev pub fill_from : ℕ → ℕ → Option Action
fill_from p b = when (nat_le p 63) (fill p b)

-- from one to four pages, both ranges among the 64 pages, and no page in both
abbrev pub copy_of : ℕ → ℕ → ℕ → Option Action
copy_of s t c = when (nat_lt 0 c && (nat_le c 4 && (nat_le (s + c) 64 && (nat_le (t + c) 64 && (nat_le (s + c) t || nat_le (t + c) s))))) (copy s t c)

abbrev pub swap_from : ℕ → ℕ → Option Action
swap_from a b = when (nat_le a 63 && (nat_le b 63 && not (a == b))) (swap a b)

-- a body: byte 0 says which, and the length is exact but for a patch
unfoldable pub parse : List ℕ → Option Action
parse b =
    cond (slice_index b 0 == 1 && nat_le 3 (length b)) (patch_of (slice_index b 1) (slice_index b 2) (drop 3 b))
    (cond (slice_index b 0 == 2 && length b == 3) (fill_from (slice_index b 1) (slice_index b 2))
    (cond (slice_index b 0 == 3 && length b == 4) (copy_of (slice_index b 1) (slice_index b 2) (slice_index b 3))
    (cond (slice_index b 0 == 4 && length b == 3) (swap_from (slice_index b 1) (slice_index b 2)) None)))

-- the pages read, and the pages written
abbrev pub sets : Action → ℕ × ℕ
sets (patch p o bytes) = (only p, only p)
sets (fill p b) = (0, only p)
sets (copy s t c) = (run s c, run t c)
sets (swap a b) = (both a b, both a b)

-- from the read pages' contents the written pages' contents, both rising
abbrev pub change : Action → List ℕ → List ℕ
change (patch p o bytes) old = take o old ++ (bytes ++ drop (o + length bytes) old)
change (fill p b) old = replicate 224 b
change (copy s t c) old = old
change (swap a b) old = drop 224 old ++ take 224 old

abbrev pub scope_by : Option Action → Result (ℕ × ℕ) ℕ
scope_by (Some a) = Ok (sets a)
scope_by None = Err 1

abbrev pub effect_by : Option Action → List ℕ → Result (List ℕ) ℕ
effect_by (Some a) old = cond (length old == 224 * size (sets a).0) (Ok (change a old)) (Err 2)
effect_by None old = Err 1

-- the page kind
abbrev pub page_meaning : Meaning
page_meaning = record { limit = 4; scope = λ b. scope_by (parse b); effect = λ b old. effect_by (parse b) old }

-- the lengths of the two buffers with which an action can be done
abbrev pub Ready : Action → ℕ → ℕ → Type 0
Ready (patch p o bytes) k n = (k ≡ 224) × (n ≡ 224) × (o + length bytes ≤ 224)
Ready (fill p b) k n = n ≡ 224
Ready (copy s t c) k n = n ≡ k
Ready (swap a b) k n = (k ≡ 448) × (n ≡ 448)
