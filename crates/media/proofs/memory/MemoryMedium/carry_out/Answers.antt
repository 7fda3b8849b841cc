use Rattle.std.proofs.Common.{arith}
use Rattle.media.specs.Memory.{memory, fitting}
use Rattle.media.proofs.ChunkLaws.{length-chunks}
use Rattle.media.proofs.MediaLaws.{begins-parts}
use Rattle.media.proofs.memory.MemoryMedium.carry_out.Goals as goal

pub store_block-requires : goal.store_block-requires
store_block-requires c =
    let s = c.args.self.now in
    let n = length-chunks (fitting s.bytes.now) s.bytes.now in
    let p = begins-parts (memory s) c.args.block c.args.new.now c.requires.begins in
    record { fits = omega arith }
