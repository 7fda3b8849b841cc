use Rattle.sets.proofs.SetLaws.{has-or}
use Rattle.sets.proofs.pages.union.Goals as goal

pub returns : goal.returns
returns c = has-or c.args.s c.args.t
