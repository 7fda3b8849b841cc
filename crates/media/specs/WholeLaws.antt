-- The blocks of a run of bytes have 256 bytes each, and so have those of a partition.
use Rattle.std.specs.Prelude.{◌≡◌, ℕ, zero, suc, ◌+◌, ◌*◌, ◌<◌, ◌≤◌, Bool, true, false, cond, List, [], length, take, drop, nat_le, slice_index_or}
use Rattle.std.proofs.Common.{ap, ◌∙◌, mul-suc, arith}
use Rattle.std.proofs.lemmas.List.{length-take, length-drop, get_or-take, get_or-drop}
use Rattle.media.specs.Media.{Device, Whole, block_count}
use Rattle.media.specs.Memory.{chunks, fitting, blocks_of}
use Rattle.media.specs.Parts.{part_of}

chunks-whole : (n : ℕ) (bs : List ℕ) (b : ℕ) → 256 * n ≤ length bs → b < length (chunks n bs) → length (slice_index_or (chunks n bs) b []) ≡ 256
unfolding chunks
chunks-whole zero bs b l h = absurd (omega arith)
chunks-whole (suc n) bs zero l h = let e = mul-suc 256 n in simp length-take (omega arith)
chunks-whole (suc n) bs (suc b) l h =
    let e = mul-suc 256 n in
    let d = length-drop 256 bs in
    chunks-whole n (drop 256 bs) b (omega arith) (omega arith)

pub blocks-whole : (bs : List ℕ) (live : Bool) → Whole (record { blocks = blocks_of bs; live = live })
blocks-whole bs live b h = chunks-whole (fitting bs) bs b (omega arith) h

pub part-whole : (a n : ℕ) (m : Device) → Whole m → Whole (part_of a n m)
part-whole a n m w b = go (nat_le (a + n) (block_count m))
  where
    go : (t : Bool) → b < length (cond t (take n (drop a m.blocks)) []) → length (slice_index_or (cond t (take n (drop a m.blocks)) []) b []) ≡ 256
    go true h =
        let long = length-take n (drop a m.blocks) in
        let past = length-drop a m.blocks in
        ap length (get_or-take n (drop a m.blocks) b [] (omega arith) ∙ get_or-drop a m.blocks b []) ∙ w (a + b) (omega arith)
    go false h = absurd (omega arith)
