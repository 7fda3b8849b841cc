use Rattle.std.proofs.Common.{ap₂}
use Rattle.tree.specs.Nodes.{entries, entries_of}
use Rattle.tree.proofs.entries.Entries.of.Goals as goal

pub returns : goal.returns
unfolding entries
returns c = ap₂ entries_of c.byte.ensures c.past.ensures
