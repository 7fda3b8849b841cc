-- Where a store of 129 blocks keeps its pages: page p in block p or in block 64 + p, as the set in block 128 says.
use Rattle.std.specs.Prelude.{ℕ, ◌+◌, cond, List, [], ◌++◌, take, replicate, nat_lt, slice_index_or}
use Rattle.sets.specs.Sets.{has}
use Rattle.sets.specs.Words.{number, bytes_of}
use Rattle.stores.specs.Images.{image_of, blank}

-- a block
abbrev pub block_in : List (List ℕ) → ℕ → List ℕ
block_in bs b = slice_index_or bs b []

-- the set in bytes 0 to 7 of block 128, and such a block
abbrev pub set_in : List (List ℕ) → ℕ
set_in bs = number (take 8 (block_in bs 128))

abbrev pub block_of_set : ℕ → List ℕ
block_of_set s = bytes_of 8 s ++ replicate 248 0

-- the block of page p, where the pages of the set u lie in the upper blocks
abbrev pub slot : ℕ → ℕ → ℕ
slot u p = cond (has u p) (64 + p) p

-- the image of page p; blank for what is no page
abbrev pub page_in : List (List ℕ) → ℕ → List ℕ
page_in bs p = cond (nat_lt p 64) (image_of (block_in bs (slot (set_in bs) p))) blank
