use Rattle.lives.proofs.HoldsFacts.{law-holds}
use Rattle.lives.proofs.law.law_holds.Goals as goal

pub returns : goal.returns
returns c = law-holds
