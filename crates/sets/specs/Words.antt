-- Numbers in bytes, low byte first.
use Rattle.std.specs.Prelude.{ℕ, zero, suc, ◌+◌, ◌-◌, ◌*◌, ◌/◌, ◌%◌, List, [], ◌∷◌, ◌++◌, length, take, drop}

-- the number that bytes write, low byte first
abbrev pub number : List ℕ → ℕ
number [] = 0
number (b ∷ bs) = b + 256 * number bs

-- the n low bytes of a number, low byte first
abbrev pub bytes_of : ℕ → ℕ → List ℕ
bytes_of zero x = []
bytes_of (suc n) x = (x % 256) ∷ bytes_of n (x / 256)

-- the k bytes from place a on, as far as there are so many
abbrev pub part : ℕ → ℕ → List ℕ → List ℕ
part a k bs = take k (drop a bs)

-- bytes w laid over bs from place a on, as far as there is room
abbrev pub over : ℕ → List ℕ → List ℕ → List ℕ
over a w bs = take a bs ++ (take (length bs - a) w ++ drop (a + length w) bs)
