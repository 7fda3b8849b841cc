use Rattle.std.proofs.Common.{rules}
use Rattle.logblocks.specs.Blocks.{header_of}
use Rattle.logblocks.proofs.header.header_block.Goals as goal

pub returns : goal.returns
unfolding header_of
returns c = search rules
