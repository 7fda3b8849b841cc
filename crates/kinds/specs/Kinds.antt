-- What a kind of operation means, and what every kind owes.
use Rattle.std.specs.Prelude.{◌≡◌, ℕ, ◌*◌, ◌^◌, ◌<◌, ◌≤◌, cond, ◌&&◌, List, length, Ok, Err, Result, ◌==◌, ◌≢◌}
use Rattle.std.specs.List.{AllByRecursion}
use Rattle.sets.specs.Sets.{size}

-- a kind: the largest number of pages that an operation reads or writes; from a body the pages read and the pages written, or a
-- code; from a body and the read pages' contents, rising, 224 bytes each, the written pages' contents likewise, or a code. So
-- what is written depends on the body and the pages read alone.
pub record Meaning : Type 0 where
  pub limit : ℕ
  pub scope : List ℕ → Result (ℕ × ℕ) ℕ
  pub effect : List ℕ → List ℕ → Result (List ℕ) ℕ

-- each is a byte
abbrev pub Bytes : List ℕ → Type 0
Bytes bs = AllByRecursion (λ b. b < 256) bs

-- the two sets of an operation: sets of the 64 pages, neither larger than the limit, the written one not empty
pub record Scoped (limit reads writes : ℕ) : Type 0 where
  pub reads_pages : reads < 2 ^ 64
  pub writes_pages : writes < 2 ^ 64
  pub reads_few : size reads ≤ limit
  pub writes_few : size writes ≤ limit
  pub writes_some : 1 ≤ size writes

-- what every kind owes
pub record Lawful (m : Meaning) : Type 0 where
  -- the limit is 1 to 4
  pub limit_from : 1 ≤ m.limit
  pub limit_to : m.limit ≤ 4
  -- an accepted body has two sets within the limit
  pub scoped : (body : List ℕ) (r w : ℕ) → m.scope body ≡ Ok (r, w) → Scoped m.limit r w
  -- a refused body has code 1, and has it also as an effect
  pub code_one : (body : List ℕ) (c : ℕ) → m.scope body ≡ Err c → c ≡ 1
  pub refused : (body old : List ℕ) (c : ℕ) → m.scope body ≡ Err c → m.effect body old ≡ Err 1
  -- an accepted body has no code 1
  pub accepted : (body old : List ℕ) (s : ℕ × ℕ) → m.scope body ≡ Ok s → m.effect body old ≢ Err 1
  -- old contents of another length than the read pages' have code 2
  pub unsized : (body old : List ℕ) (r w : ℕ) → m.scope body ≡ Ok (r, w) → (length old ≢ 224 * size r) → m.effect body old ≡ Err 2
  -- new contents have the written pages' length, and bytes stay bytes
  pub sized : (body old new : List ℕ) (r w : ℕ) → m.scope body ≡ Ok (r, w) → m.effect body old ≡ Ok new → length new ≡ 224 * size w
  pub bytes : (body old new : List ℕ) → Bytes body → Bytes old → m.effect body old ≡ Ok new → Bytes new

-- what a call answers with a reply buffer of n bytes: the new contents, or a code; after code 1, code 2 where a length is wrong
abbrev pub within : Result (ℕ × ℕ) ℕ → ℕ → ℕ → Result (List ℕ) ℕ → Result (List ℕ) ℕ
within (Ok (r, w)) k n e = cond (k == 224 * size r && n == 224 * size w) e (Err 2)
within (Err c) k n e = Err c

unfoldable pub reply : Meaning → List ℕ → List ℕ → ℕ → Result (List ℕ) ℕ
reply m body old n = within (m.scope body) (length old) n (m.effect body old)

-- the answer alone
abbrev pub answer : Result (List ℕ) ℕ → Result (Unit {0}) ℕ
answer (Ok new) = Ok tt
answer (Err c) = Err c

-- what the buffer holds then: the new contents, or what it held before
abbrev pub filled : Result (List ℕ) ℕ → List ℕ → List ℕ
filled (Ok new) before = new
filled (Err c) before = before
