use Rattle.sets.proofs.SetLaws.{has-less}
use Rattle.sets.proofs.pages.without.Goals as goal

pub returns : goal.returns
returns c = λ p. has-less c.args.s c.args.t p c.ranges.s.fits c.ranges.t.fits
