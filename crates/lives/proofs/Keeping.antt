-- What a book and a volume keep between them through every call.
use Rattle.std.proofs.Common.{◌≡◌, ℕ, suc, ◌+◌, ◌<◌, ◌≤◌, Bool, true, false, List, [], ◌∷◌, length, get_or, Ok, Err, Result}
use Rattle.media.specs.Media.{Device, block_count, block_at}
use Rattle.stores.specs.Stores.{is_short}
use Rattle.stores.specs.Stores.State.{Live}
use Rattle.kinds.specs.Kinds.{Meaning}
use Rattle.logblocks.specs.Blocks.{Entry, block_of, header_of}
use Rattle.redo.specs.Histories.{after, Ran}
use Rattle.redo.specs.Prefixes.{Installed}
use Rattle.graph.specs.Listing.{Lists}
use Rattle.volume.specs.Working.{number_of}
use Rattle.volume.specs.LogReading.{record_block, last_number}
use Rattle.volume.specs.Volumes.{Ends, Volume}
use Rattle.volume.specs.Surviving.{stored_pages, working_pages}
use Rattle.lives.specs.Books.{Book, next_of, next_logged, body_at, history_of}
use Rattle.lives.specs.Lives.{State as Point, ends}
use Rattle.lives.specs.Lives.State.{down, up}

-- the record of an operation
abbrev pub entry_by : ℕ → List ℕ → Result (ℕ × ℕ) ℕ → Entry
entry_by n body (Ok (r, w)) = record { number = n; reads = r; writes = w; body = body }
entry_by n body (Err c) = record { number = n; reads = 0; writes = 0; body = body }

abbrev pub entry_for : Meaning → Book → ℕ → Entry
entry_for k b n = entry_by n (body_at b n) (k.scope (body_at b n))

abbrev pub block_for : Meaning → Book → ℕ → List ℕ
block_for k b n = block_of (entry_for k b n)

-- a body that was run: not too long, and the kind takes it
pub record Sound (k : Meaning) (body : List ℕ) : Type 0 where
  pub short : length body ≤ 232
  pub reads : ℕ
  pub writes : ℕ
  pub taken : k.scope body ≡ Ok (reads, writes)

-- the log has the first number t, and the records g from t up to n; no block bears a number from n on
pub record LogOf (g : ℕ → List ℕ) (t n : ℕ) (m : Device) : Type 0 where
  pub long : 129 ≤ block_count m
  pub header : block_at m 0 ≡ header_of t
  pub records : (i : ℕ) → t ≤ i → i < n → record_block m i ≡ g i
  pub older : (b : ℕ) → 1 ≤ b → b < 129 → number_of (block_at m b) < n

-- blocks that wait: the records g from m up to n
abbrev pub Waits : (ℕ → List ℕ) → ℕ → List (List ℕ) → ℕ → Type 0
Waits g n [] m = m ≡ n
Waits g n (b ∷ bs) m = (b ≡ g m) × Waits g n bs (suc m)

-- the book by itself: its bodies were run, and numbers are left
pub record Booked (k : Meaning) (b : Book) : Type 0 where
  pub from_one : 1 ≤ b.first
  pub numbered : next_of b ≤ last_number
  pub told : b.acknowledged ≤ b.logged
  pub survives : b.logged ≤ length b.bodies
  pub sound : (i : ℕ) → i < length b.bodies → Sound k (get_or b.bodies i [])
  pub ran : Ran (history_of k b) (next_of b)

-- the book and the two ends, with the installed operations I and the log's first number t
pub record Kept (k : Meaning) (b : Book) (I : ℕ → Bool) (t : ℕ) (e : Ends) : Type 0 where
  pub installed : Installed (history_of k b) I (next_of b) (stored_pages e.store)
  pub in_log : (m : ℕ) → I m ≡ true → m < next_logged b
  pub from_first : b.first ≤ t
  pub to-logged : t ≤ next_logged b
  pub room : next_logged b ≤ t + 128
  pub dropped : (m : ℕ) → b.first ≤ m → m < t → I m ≡ true
  pub log : LogOf (block_for k b) t (next_logged b) e.log
  pub not_short : is_short e.store.state ≡ false
  pub sized : (p : ℕ) → p < 64 → length (e.store.image p) ≡ 256

-- the book and a well volume
pub record Upheld (k : Meaning) (b : Book) (I : ℕ → Bool) (t : ℕ) (v : Volume) : Type 0 where
  pub log-live : v.log.live ≡ true
  pub store-live : v.store.state ≡ Live
  pub working : (p : ℕ) → working_pages v p ≡ after (history_of k b) (next_of b) p
  pub whole : (p : ℕ) → p < 64 → length (v.images p) ≡ 256
  pub lists : Lists v.dirty (history_of k b) I (next_of b)
  pub waiting : Waits (block_for k b) (next_of b) v.waiting (next_logged b)
  pub few : length v.waiting ≤ 16
  pub first : v.first ≡ t
  pub next : v.next ≡ next_of b
  pub room : next_of b ≤ t + 128

-- what is kept in any state
abbrev pub KeepsUp : Meaning → Book → (ℕ → Bool) → ℕ → Point → Type 0
KeepsUp k b I t (down e) = Unit {0}
KeepsUp k b I t (up v) = v.status ≡ Ok tt → Upheld k b I t v

pub record Keeps (k : Meaning) (b : Book) (s : Point) : Type 0 where
  pub booked : Booked k b
  pub I : ℕ → Bool
  pub t : ℕ
  pub kept : Kept k b I t (ends s)
  pub upheld : KeepsUp k b I t s
