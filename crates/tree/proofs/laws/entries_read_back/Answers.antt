use Rattle.tree.proofs.MapLaws.{codec}
use Rattle.tree.proofs.laws.entries_read_back.Goals as goal

pub returns : goal.returns
returns c = codec
