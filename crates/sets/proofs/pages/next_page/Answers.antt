use Rattle.sets.proofs.SetLaws.{next-page}
use Rattle.sets.proofs.pages.next_page.Goals as goal

pub returns : goal.returns
returns c = rw c.then_some.ensures (next-page c.args.s c.args.p c.in_ok-above.field-0 c.in_ok-above.ensures.1)
