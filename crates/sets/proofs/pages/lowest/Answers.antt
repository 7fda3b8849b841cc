use Rattle.sets.proofs.SetLaws.{trailing_first}
use Rattle.sets.proofs.pages.lowest.Goals as goal

pub returns : goal.returns
returns c = trailing_first 64 c.args.s
