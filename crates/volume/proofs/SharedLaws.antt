-- The pages that written images hold.
use Rattle.std.proofs.Common.{◌≡◌, ℕ, ◌+◌, ◌*◌, ◌^◌, ◌<◌, true, false, cond, List, ◌++◌, length, take, drop, ap, ◌∙◌, arith}
use Rattle.std.proofs.lemmas.List.{length-take, length-drop, take_at, drop_at}
use Rattle.std.proofs.lemmas.Bool.{cond-true, cond-false}
use Rattle.sets.specs.Sets.{has, count, size}
use Rattle.sets.specs.Words.{number, bytes_of}
use Rattle.sets.proofs.SetLaws.{count-more, count-mono}
use Rattle.sets.proofs.WordLaws.{bytes-length, number-bytes}
use Rattle.redo.specs.Histories.{Page}
use Rattle.volume.specs.Working.{number_of, contents_in, share_of, stamped, written}
use Rattle.volume.specs.Surviving.{page_of}

pub page-same : (p q : Page) → p.contents ≡ q.contents → p.number ≡ q.number → p ≡ q
page-same p q c n = λ i. record { contents = c i; number = n i }

-- an image that was stamped holds its number and contents
module _ (n : ℕ) (contents image : List ℕ) where
  stamped-number : n < 256 ^ 4 → number_of (stamped n contents image) ≡ n
  stamped-number small = ap number (take_at (bytes_of 4 n) (contents ++ drop 228 image) 4 (bytes-length 4 n)) ∙ number-bytes 4 n small

  stamped-contents : length contents ≡ 224 → contents_in (stamped n contents image) ≡ contents
  stamped-contents long =
      ap (take 224) (drop_at (bytes_of 4 n) (contents ++ drop 228 image) 4 (bytes-length 4 n)) ∙ take_at contents (drop 228 image) 224 long

  pub page-stamped : n < 256 ^ 4 → length contents ≡ 224 → page_of (stamped n contents image) ≡ record { contents = contents; number = n }
  page-stamped small long =
      page-same (page_of (stamped n contents image)) (record { contents = contents; number = n }) (stamped-contents long) (stamped-number small)

-- a page's share of new contents has a page's length
pub share_length : (set' : ℕ) (new : List ℕ) (p : ℕ) → length new ≡ 224 * size set' → p < 64 → has set' p ≡ true → length (share_of set' new p) ≡ 224
share_length set' new p long l e =
    let m = count-mono (has set') (p + 1) 64 (omega arith) in
    let s : count (has set') (p + 1) ≡ count (has set') p + 1 = count-more (has set') p ∙ ap (λ t. count (has set') p + cond t 1 0) e in
    simp (length-take, length-drop) (omega arith)

-- the pages of a set took their shares and the number n, and no other changed
module _ (set' n : ℕ) (new : List ℕ) (images : ℕ → List ℕ) (p : ℕ) where
  pub page-written : n < 256 ^ 4 → length new ≡ 224 * size set' → p < 64 → has set' p ≡ true
      → page_of (written set' n new images p) ≡ record { contents = share_of set' new p; number = n }
  page-written small long l e =
      ap page_of (cond-true (has set' p) (stamped n (share_of set' new p) (images p)) (images p) e)
      ∙ page-stamped n (share_of set' new p) (images p) small (share_length set' new p long l e)

  pub page-unwritten : has set' p ≡ false → page_of (written set' n new images p) ≡ page_of (images p)
  page-unwritten e = ap page_of (cond-false (has set' p) (stamped n (share_of set' new p) (images p)) (images p) e)
