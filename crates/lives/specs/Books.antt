-- The book: what the calls and their answers alone tell of the operations that survive.
use Rattle.std.specs.Prelude.{ℕ, ◌+◌, ◌-◌, Bool, true, false, cond, List, [], ◌∷◌, ◌++◌, length, take, Ok, Err, Result, nat_eq, slice_index_or}
use Rattle.sets.specs.Sets.{first as first_of}
use Rattle.faults.specs.Faults.{Report}
use Rattle.media.specs.declared.fate.Fate.{Fate}
use Rattle.media.specs.declared.fate.Fate.TheVariants.{Lives, DiesOld, DiesNew}
use Rattle.media.specs.Media.{lands}
use Rattle.stores.specs.Images.{blank}
use Rattle.kinds.specs.Kinds.{Meaning}
use Rattle.redo.specs.Histories.{History}
use Rattle.volume.specs.Working.{taken}
use Rattle.volume.specs.LogReading.{place_of}
use Rattle.volume.specs.Surviving.{page_of, operation_of}

-- A call with its answer: the value, or the report of the fault. A force has also a fate: whether a write died in this very call, and
-- whether the block at which it died was left old or new. A halted volume that answers its fault again is no second death. (Looks at a
-- page or at a group change nothing and are not told.)
pub data Event : Type 0 where
  run : (body : List ℕ) (answer : Result ℕ Report) → Event
  force : (answer : Result ℕ Report) (fate : Fate) → Event
  flush : (page : ℕ) (answer : Result ℕ Report) → Event
  trim : (answer : Result ℕ Report) → Event
  stop : (answer : ℕ) → Event
  mount : (answer : Result ℕ Report) → Event

-- the surviving operations' bodies in order, numbered from the first number on; how many of them, from the front, are logged, and how
-- many were acknowledged by a force
pub record Book : Type 0 where
  pub first : ℕ
  pub bodies : List (List ℕ)
  pub logged : ℕ
  pub acknowledged : ℕ

-- the numbers after the last surviving operation and after the last logged one
abbrev pub next_of : Book → ℕ
next_of b = b.first + length b.bodies

abbrev pub next_logged : Book → ℕ
next_logged b = b.first + b.logged

-- the number of the record at which a force died: the first one that is not logged and lies in the block that the fault names
abbrev pub dying_record : Book → Report → ℕ
dying_record b r = first_of (λ n. nat_eq (place_of n) r.place) (next_logged b) (length b.bodies - b.logged)

abbrev pub with_run : Book → List ℕ → Book
with_run b body = record { first = b.first; bodies = b.bodies ++ body ∷ []; logged = b.logged; acknowledged = b.acknowledged }

abbrev pub with_all : Book → Book
with_all b = record { first = b.first; bodies = b.bodies; logged = length b.bodies; acknowledged = length b.bodies }

-- the records before number n are logged, and that one exactly if its block is new
abbrev pub with_before : Book → ℕ → Fate → Book
with_before b n fate = record { first = b.first; bodies = b.bodies; logged = n - b.first + cond (lands fate) 1 0; acknowledged = b.acknowledged }

abbrev pub logged_alone : Book → Book
logged_alone b = record { first = b.first; bodies = take b.logged b.bodies; logged = b.logged; acknowledged = b.acknowledged }

-- An accepted run adds its operation, not logged. An accepted force makes all logged and acknowledges them; one in which a write died
-- makes those before its dying record logged, and that one exactly if its block is new. An accepted mount keeps the logged ones. Nothing
-- else changes the book.
abbrev pub fed : Book → Event → Book
fed b (run body (Ok n)) = with_run b body
fed b (run body (Err r)) = b
fed b (force (Ok n) fate) = with_all b
fed b (force (Err r) Lives) = b
fed b (force (Err r) DiesOld) = with_before b (dying_record b r) DiesOld
fed b (force (Err r) DiesNew) = with_before b (dying_record b r) DiesNew
fed b (flush page answer) = b
fed b (trim answer) = b
fed b (stop answer) = b
fed b (mount (Ok n)) = logged_alone b
fed b (mount (Err r)) = b

-- an accepted format empties the book
abbrev pub empty_book : ℕ → Book
empty_book f = record { first = f; bodies = []; logged = 0; acknowledged = 0 }

-- the book of some events since a format with first number f; the newest event stands first
abbrev pub book_of : ℕ → List Event → Book
book_of f [] = empty_book f
book_of f (e ∷ es) = fed (book_of f es) e

-- the body with number n
abbrev pub body_at : Book → ℕ → List ℕ
body_at b n = slice_index_or b.bodies (n - b.first) []

-- the surviving operations as a history: it starts from blank pages with number 0
abbrev pub history_of : Meaning → Book → History
history_of k b = record { start = λ p. page_of (taken (λ _. blank) p); first = b.first; operation = λ n. operation_of k (body_at b n) }

-- no run was accepted after the last accepted force or mount
abbrev pub quiet : List Event → Bool
quiet [] = true
quiet (run body (Ok n) ∷ es) = false
quiet (run body (Err r) ∷ es) = quiet es
quiet (force (Ok n) fate ∷ es) = true
quiet (force (Err r) fate ∷ es) = quiet es
quiet (flush page answer ∷ es) = quiet es
quiet (trim answer ∷ es) = quiet es
quiet (stop answer ∷ es) = quiet es
quiet (mount (Ok n) ∷ es) = true
quiet (mount (Err r) ∷ es) = quiet es

-- neither a run nor a mount
abbrev pub neither_run_nor_mount : Event → Bool
neither_run_nor_mount (run body answer) = false
neither_run_nor_mount (force answer fate) = true
neither_run_nor_mount (flush page answer) = true
neither_run_nor_mount (trim answer) = true
neither_run_nor_mount (stop answer) = true
neither_run_nor_mount (mount answer) = false

-- how many of the events are accepted flushes
abbrev pub one_flush : Event → ℕ
one_flush (run body answer) = 0
one_flush (force answer fate) = 0
one_flush (flush page (Ok n)) = 1
one_flush (flush page (Err r)) = 0
one_flush (trim answer) = 0
one_flush (stop answer) = 0
one_flush (mount answer) = 0

abbrev pub flushes : List Event → ℕ
flushes [] = 0
flushes (e ∷ es) = one_flush e + flushes es
