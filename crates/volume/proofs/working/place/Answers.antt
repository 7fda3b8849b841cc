use Rattle.std.proofs.Common.{arith}
use Rattle.volume.proofs.WorkingLaws.{place-is}
use Rattle.volume.proofs.working.place.Goals as goal

pub overflow_sub-below : goal.overflow_sub-below
overflow_sub-below c = omega (arith, c.size.ensures, c.size-2.ensures, place-is c.args.set c.args.page.number c.ranges.set.fits)

pub returns : goal.returns
returns c = omega (arith, c.size.ensures, c.size-2.ensures, place-is c.args.set c.args.page.number c.ranges.set.fits)
