use Rattle.sets.proofs.SetLaws.{has-shl, has-no_page}
use Rattle.sets.proofs.pages.single.Goals as goal

pub returns-then-p-ge64 : goal.returns-then-p-ge64
returns-then-p-ge64 c = λ q. has-no_page c.args.p q c.if-p-ge64.true

pub returns : goal.returns
returns c = λ q. has-shl c.args.p q c.if-p-ge64.false
