use Rattle.sets.proofs.SetLaws.{has-xor}
use Rattle.sets.proofs.pages.toggle.Goals as goal

pub returns : goal.returns
returns c = has-xor c.args.s c.args.t
