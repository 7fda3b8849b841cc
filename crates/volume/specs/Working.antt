-- The working pages: an image of 256 bytes for each page. Bytes 0 to 3 are the page's number, 4 to 227 its contents.
use Rattle.std.specs.Prelude.{ℕ, ◌*◌, true, cond, List, [], ◌++◌, drop, ◌==◌, nat_lt}
use Rattle.std.specs.List.{flat_map}
use Rattle.sets.specs.Sets.{has, count, rising, pages}
use Rattle.sets.specs.Words.{number, bytes_of, part}

-- the image of page p among images that stand one after another
abbrev pub image_at : List ℕ → ℕ → List ℕ
image_at images p = part (256 * p) 256 images

-- the number and the contents of a page's image
abbrev pub number_of : List ℕ → ℕ
number_of image = number (part 0 4 image)

abbrev pub contents_in : List ℕ → List ℕ
contents_in image = part 4 224 image

-- the contents of the pages of a set, rising
abbrev pub gathered : ℕ → (ℕ → List ℕ) → List ℕ
gathered set images = flat_map (λ p. contents_in (images p)) (pages set)

-- of contents that stand one after another for the pages of a set, rising: those of page p
abbrev pub share_of : ℕ → List ℕ → ℕ → List ℕ
share_of set new p = part (224 * count (has set) p) 224 new

-- an image with another number and other contents
abbrev pub stamped : ℕ → List ℕ → List ℕ → List ℕ
stamped n contents image = bytes_of 4 n ++ (contents ++ drop 228 image)

-- the images after the pages of a set took new contents and the number n
abbrev pub written : ℕ → ℕ → List ℕ → (ℕ → List ℕ) → ℕ → List ℕ
written set n new images p = cond (has set p) (stamped n (share_of set new p) (images p)) (images p)

-- the images with that of page p replaced
abbrev pub replaced : ℕ → List ℕ → (ℕ → List ℕ) → ℕ → List ℕ
replaced p image images q = cond (q == p) image (images q)

-- the images of the 64 pages, one after another
abbrev pub in_row : (ℕ → List ℕ) → List ℕ
in_row images = flat_map images (rising (λ _. true) 64)

-- the images of the 64 pages alone
abbrev pub taken : (ℕ → List ℕ) → ℕ → List ℕ
taken images p = cond (nat_lt p 64) (images p) []
