use Rattle.sets.proofs.SetLaws.{has-and}
use Rattle.sets.proofs.pages.common.Goals as goal

pub returns : goal.returns
returns c = has-and c.args.s c.args.t
