use Rattle.std.proofs.Common.{sym, refl}
use Rattle.sets.specs.Sets.{has}
use Rattle.sets.proofs.SetLaws.{has_above}
use Rattle.sets.proofs.pages.contains.Goals as goal

pub returns-then-p-ge64 : goal.returns-then-p-ge64
returns-then-p-ge64 c = sym (has_above 64 c.args.s c.args.p c.ranges.s.fits c.if-p-ge64.true)

pub returns : goal.returns
unfolding has
returns c = refl
