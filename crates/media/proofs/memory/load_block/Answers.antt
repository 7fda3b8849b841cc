use Rattle.std.proofs.Common.{◌≡◌, ◌*◌, take, drop, sym, ap, ◌∙◌, arith}
use Rattle.std.proofs.lemmas.Grind.{common_steps}
use Rattle.media.specs.Memory.{fitting}
use Rattle.media.proofs.ChunkLaws.{get_d_chunks}
use Rattle.media.proofs.memory.load_block.Goals as goal

pub returns : goal.returns
returns c =
    let bs = c.args.bytes.now in
    let b = c.args.block in
    let read : c.unwrap.result.0.now ≡ take 256 (drop (b * 256) bs) = grind (arith, common_steps) in
    let at : b * 256 ≡ 256 * b = omega arith in
    read ∙ ap (λ a. take 256 (drop a bs)) at ∙ sym (get_d_chunks (fitting bs) bs b c.requires.fits)
