-- Page images: 256 bytes, of which 0 to 3 are the page's number, 4 to 227 its contents and the rest zeros.
use Rattle.std.specs.Prelude.{ℕ, ◌*◌, List, ◌++◌, take, drop, replicate}

-- the image that a block holds: bytes 228 to 255 count as zero, whatever they are
abbrev pub image_of : List ℕ → List ℕ
image_of block = take 228 block ++ replicate 28 0

-- the image of a page that nothing has written
abbrev pub blank : List ℕ
blank = replicate 256 0

-- the image of page p among 64 images one after another
abbrev pub pictured : List ℕ → ℕ → List ℕ
pictured images p = image_of (take 256 (drop (256 * p) images))
