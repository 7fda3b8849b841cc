-- Entries and their bytes.
use Rattle.std.specs.Prelude.{◌≡◌, ℕ, suc, ◌+◌, ◌-◌, ◌*◌, ◌<◌, ◌≤◌, false, List, [], ◌∷◌, take, drop}
use Rattle.std.proofs.Common.{ap, ap₂, ◌∙◌, arith}
use Rattle.std.proofs.Math.Path.{fun_ext}
use Rattle.std.proofs.lemmas.List.{drop-drop}
use Rattle.sets.specs.Sets.{has}
use Rattle.sets.proofs.SetLaws.{has-none}
use Rattle.sets.specs.Words.{number, part}
use Rattle.tree.specs.Nodes.{Entry, entries_of, count, entries}

-- ---- the entries from number i on

abbrev pub from : List ℕ → ℕ → ℕ → List Entry
from c n i = entries_of (n - i) (drop (4 + 8 * i) c)

abbrev pub entry_at : List ℕ → ℕ → Entry
entry_at c i = (number (part (4 + 8 * i) 4 c), number (part (8 + 8 * i) 4 c))

pub from_more : (c : List ℕ) (n i : ℕ) → i < n → from c n i ≡ entry_at c i ∷ from c n (i + 1)
from_more c n i l =
    let k : n - i ≡ suc (n - (i + 1)) = omega arith in
    let a : 4 + 8 * i + 4 ≡ 8 + 8 * i = omega arith in
    let b : 4 + 8 * i + 8 ≡ 4 + 8 * (i + 1) = omega arith in
    ap (λ m. entries_of m (drop (4 + 8 * i) c)) k
    ∙ ap₂ ◌∷◌ (ap (λ v. (number (part (4 + 8 * i) 4 c), v)) (ap (λ t. number (take 4 t)) (drop-drop 4 (4 + 8 * i) c ∙ ap (λ j. drop j c) a)))
    (ap (entries_of (n - (i + 1))) (drop-drop 8 (4 + 8 * i) c ∙ ap (λ j. drop j c) b))

pub from-none : (c : List ℕ) (n i : ℕ) → n ≤ i → from c n i ≡ []
from-none c n i l = let k : n - i ≡ 0 = omega arith in ap (λ m. entries_of m (drop (4 + 8 * i) c)) k

pub from_all : (c : List ℕ) (n : ℕ) → n ≡ count c → from c n 0 ≡ entries c
unfolding entries
from_all c n e = let k : n - 0 ≡ count c = omega arith in ap (λ m. entries_of m (drop 4 c)) k

-- ---- seen values

pub seen_none : has 0 ≡ (λ _. false)
seen_none = fun_ext has-none
