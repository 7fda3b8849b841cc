use Rattle.std.proofs.Common.{sym}
use Rattle.media.specs.Memory.{fitting}
use Rattle.media.specs.WholeLaws.{blocks-whole}
use Rattle.media.proofs.ChunkLaws.{length-chunks}
use Rattle.media.proofs.memory.MemoryMediumMedium.count.Goals as goal

pub returns : goal.returns
returns c =
    let bs = c.args.self.now.bytes.now in
    record { count = sym (length-chunks (fitting bs) bs); whole = blocks-whole bs c.args.self.now.live }
