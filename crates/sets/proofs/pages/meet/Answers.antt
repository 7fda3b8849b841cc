use lib.Bits.{bit_and}
use Rattle.std.proofs.lemmas.Bool.{not-true, eqb-false, ne_eqb, not_from_false}
use Rattle.std.proofs.Common.{eqb}
use Rattle.sets.proofs.SetLaws.{meet-none, meet-some}
use Rattle.sets.proofs.pages.meet.Goals as goal

pub returns : goal.returns
returns c =
    let s = c.args.s in
    let t = c.args.t in (
      λ e. let m = meet-some t s c.ranges.t.fits (eqb-false (bit_and t s) 0 (not-true (eqb (bit_and t s) 0) e)) in (m.0, m.2, m.1),
      λ m. not_from_false (eqb (bit_and t s) 0) (ne_eqb (bit_and t s) 0 (λ z. meet-none t s c.ranges.t.fits z (m.0, m.2, m.1))),
    )
