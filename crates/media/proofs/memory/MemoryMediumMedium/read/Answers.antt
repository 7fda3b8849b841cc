use Rattle.std.proofs.Common.{arith}
use Rattle.media.specs.Memory.{memory, fitting}
use Rattle.media.proofs.ChunkLaws.{length-chunks}
use Rattle.media.proofs.MediaLaws.{read_checked}
use Rattle.media.proofs.memory.MemoryMediumMedium.read.Goals as goal

pub load_block-requires : goal.load_block-requires
load_block-requires c =
    let bs = c.args.self.now.bytes.now in
    let n = length-chunks (fitting bs) bs in
    let p = read_checked (memory c.args.self.now) c.args.block c.args.buffer.now c.in_ok-checked.ensures.answer in
    record { fits = omega (arith, p.0) }
