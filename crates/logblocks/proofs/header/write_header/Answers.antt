use Rattle.std.proofs.Common.{rules}
use Rattle.logblocks.specs.Blocks.{header_of}
use Rattle.logblocks.proofs.header.write_header.Goals as goal

pub returns-clause-back : goal.returns-clause-back
unfolding header_of
returns-clause-back c = search rules
