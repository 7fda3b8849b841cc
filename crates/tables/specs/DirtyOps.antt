-- The dirty operations that a volume lists.
use Rattle.std.specs.Prelude.{◌≡◌, ℕ, ◌≤◌, max, Bool, cond, not, ◌&&◌, List, [], ◌∷◌, ◌++◌, map, length, Some, None, fold, filter, Option, MatchOption, nat_le, nat_lt, slice_index_or}
use Rattle.std.specs.List.{ContainsAt as Has, AllByRecursion}
use Rattle.graph.specs.declared.op.Op.{Op}
use Rattle.graph.specs.Listing.{writes_inside}
use Rattle.tables.specs.declared.dirty_ops.DirtyOps.{DirtyOps}

abbrev pub dirty : DirtyOps → List Op
dirty d = d.ops.items

-- whether one more operation can be listed
abbrev pub room : List Op → Bool
room ops = nat_lt (length ops) 128

-- with one more operation behind the others, where there is room
abbrev pub pushed : List Op → Op → List Op
pushed ops o = cond (room ops) (ops ++ o ∷ []) ops

-- the operations that write no page of the set g, in their order
abbrev pub kept : ℕ → List Op → List Op
kept g ops = filter (λ o. not (writes_inside g o)) ops

abbrev pub numbers : List Op → List ℕ
numbers ops = map (λ (o : Op). o.number) ops

-- the number of the first operation; n where there is none
abbrev pub first_number : List Op → ℕ → ℕ
first_number ops n = slice_index_or (numbers ops) 0 n

-- whether o bears the number a or a higher one, and writes a page of the set g
abbrev pub counts : ℕ → ℕ → Op → Bool
counts g a o = nat_le a o.number && writes_inside g o

-- the higher of the best number so far and n
abbrev pub higher : Option ℕ → ℕ → Option ℕ
higher None n = Some n
higher (Some m) n = Some (max m n)

-- the numbers of those that count, and the highest of them
abbrev pub counted : ℕ → ℕ → List Op → List ℕ
counted g a ops = numbers (filter (counts g a) ops)

abbrev pub highest_among : ℕ → ℕ → List Op → Option ℕ
highest_among g a ops = fold higher None (counted g a ops)

-- r is one of those numbers and none is higher; or there are none
abbrev pub HighestIn : ℕ → ℕ → List Op → Option ℕ → Type 0
HighestIn g a ops r = MatchOption r (counted g a ops ≡ []) (λ m. Has (counted g a ops) m × AllByRecursion (λ n. n ≤ m) (counted g a ops))
