-- The block writes of an install, in order, for the journal store and for the shadow store.
use Rattle.std.specs.Prelude.{ℕ, cond, List, [], ◌∷◌, ◌++◌, map, ◌==◌, bit_xor}
use Rattle.sets.specs.Sets.{has, pages}
use Rattle.media.specs.Plans.{Write}
use Rattle.stores.specs.Images.{image_of, pictured}
use Rattle.stores.specs.Layout.{block_in, set_in, block_of_set, slot}

-- the image of page p into its block, upper where the page is in u
abbrev pub image_write : ℕ → (ℕ → List ℕ) → ℕ → Write
image_write u f p = record { block = slot u p; bytes = f p }

-- the same for a page of the set s, and nothing for another
abbrev pub of_page : ℕ → ℕ → (ℕ → List ℕ) → ℕ → List Write
of_page u s f p = cond (has s p) (image_write u f p ∷ []) []

-- the images of the pages of the set s, rising
abbrev pub image_writes : ℕ → ℕ → (ℕ → List ℕ) → List Write
image_writes u s f = map (image_write u f) (pages s)

-- a set into block 128
abbrev pub set_write : ℕ → Write
set_write s = record { block = 128; bytes = block_of_set s }

-- every page, as a set: the upper blocks throughout
abbrev pub every_page : ℕ
every_page = 18446744073709551615

-- Journal store: homes in blocks 0 to 63, staged images in 64 to 127, the mark in block 128.
-- To settle a mark is to copy the staged images of its pages home and to clear it.
abbrev pub settle_writes : List (List ℕ) → List Write
settle_writes bs = cond (set_in bs == 0) [] (image_writes 0 (set_in bs) (λ p. image_of (block_in bs (slot every_page p))) ++ (set_write 0 ∷ []))

-- settle, stage, mark, copy home, clear the mark
abbrev pub journal_writes : List (List ℕ) → ℕ → List ℕ → List Write
journal_writes bs set images =
    cond (set == 0) []
    (settle_writes bs ++ (image_writes every_page set (pictured images) ++ (set_write set ∷ (image_writes 0 set (pictured images) ++ (set_write 0 ∷ [])))))

-- Shadow store: two frames for each page, p and 64 + p; block 128 holds the set of the pages that are in the upper one.
-- The other frames take the images, and then block 128 turns to them.
abbrev pub shadow_writes : List (List ℕ) → ℕ → List ℕ → List Write
shadow_writes bs set images =
    cond (set == 0) []
    (image_writes (bit_xor (set_in bs) every_page) set (pictured images) ++ (set_write (bit_xor (set_in bs) set) ∷ []))

-- ---- the blocks that an install writes, in order; they are the same whatever the images are

abbrev pub blocks_in : List Write → List ℕ
blocks_in ws = map (λ w. w.block) ws

abbrev pub journal_plan : List (List ℕ) → ℕ → List ℕ
journal_plan bs set = blocks_in (journal_writes bs set [])

abbrev pub shadow_plan : List (List ℕ) → ℕ → List ℕ
shadow_plan bs set = blocks_in (shadow_writes bs set [])
