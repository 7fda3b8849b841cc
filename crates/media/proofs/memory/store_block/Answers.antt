use Rattle.std.proofs.Common.{length, set, ap, ◌∙◌}
use Rattle.media.specs.Memory.{blocks_of}
use Rattle.media.proofs.ChunkLaws.{blocks-put}
use Rattle.media.proofs.memory.store_block.Goals as goal

pub returns : goal.returns
returns c =
    let same = c.copy_from_slice.ensures.after in
    let put = blocks-put c.args.bytes.now c.copy_from_slice.new.self c.args.block c.requires.fits (ap length same ∙ c.told-new) in
    record { blocks = put.0 ∙ ap (λ d. set (blocks_of c.args.bytes.now) c.args.block d) same; rest = put.1 }
