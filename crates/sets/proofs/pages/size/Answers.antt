use Rattle.sets.proofs.SetLaws.{ones_count}
use Rattle.sets.proofs.pages.size.Goals as goal

pub returns : goal.returns
returns c = ones_count 64 c.args.s c.ranges.s.fits
