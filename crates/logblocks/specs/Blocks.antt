-- The blocks of the log, 256 bytes each: records, and the header.
use Rattle.std.specs.Prelude.{ℕ, ◌+◌, ◌-◌, Bool, true, false, cond, not, ◌&&◌, List, [], ◌∷◌, ◌++◌, length, take, drop, replicate, Some, None, codes, Option, ◌==◌, nat_le, slice_index}
use Rattle.std.specs.List.{list_all}
use Rattle.sets.specs.Words.{number, bytes_of, part}

-- what a record says: its number, the pages read, the pages written, and the body
pub record Entry : Type 0 where
  pub number : ℕ
  pub reads : ℕ
  pub writes : ℕ
  pub body : List ℕ

-- only zeros
abbrev pub zeros : List ℕ → Bool
zeros bs = list_all (λ b. b == 0) bs

-- the 20 bytes before the body's length
abbrev pub head_of : Entry → List ℕ
head_of e = bytes_of 4 e.number ++ (bytes_of 8 e.reads ++ bytes_of 8 e.writes)

-- a record's block: the fields, the body's length in a byte, the body, and zeros to byte 255
unfoldable pub block_of : Entry → List ℕ
block_of e = head_of e ++ (length e.body ∷ (e.body ++ replicate (235 - length e.body) 0))

-- a block is a record: 256 bytes, a body of at most 232, and zeros behind it
abbrev pub is_record_block : List ℕ → Bool
is_record_block bs = length bs == 256 && (nat_le (slice_index bs 20) 232 && zeros (drop (21 + slice_index bs 20) bs))

-- what the places of a record hold
abbrev pub entry_of : List ℕ → Entry
entry_of bs = record { number = number (part 0 4 bs); reads = number (part 4 8 bs); writes = number (part 12 8 bs); body = part 21 (slice_index bs 20) bs }

-- what a block reads as
abbrev pub record_in : List ℕ → Option Entry
record_in bs = cond (is_record_block bs) (Some (entry_of bs)) None

-- the header's block: the text LTR1, the first number, and zeros to byte 255
unfoldable pub header_of : ℕ → List ℕ
header_of first = codes "LTR1" ++ (bytes_of 4 first ++ replicate 248 0)

-- the same bytes
abbrev pub same : List ℕ → List ℕ → Bool
same [] [] = true
same [] (y ∷ ys) = false
same (x ∷ xs) [] = false
same (x ∷ xs) (y ∷ ys) = x == y && same xs ys

-- a block is a header: 256 bytes, the text, a first number from 1, and zeros behind it
abbrev pub is_header_block : List ℕ → Bool
is_header_block bs = length bs == 256 && (same (take 4 bs) (codes "LTR1") && (not (number (part 4 4 bs) == 0) && zeros (drop 8 bs)))

-- what a block reads as: the first number
abbrev pub header_in : List ℕ → Option ℕ
header_in bs = cond (is_header_block bs) (Some (number (part 4 4 bs))) None
