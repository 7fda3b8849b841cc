use Rattle.std.proofs.Common.{◌≡◌, subst, arith}
use Rattle.faults.specs.Faults.{refusal}
use Rattle.volume.specs.Models.{up_over}
use Rattle.volume.specs.Flushing.{FlushedWell}
use Rattle.volume.proofs.FlushLaws.{flush-well}
use Rattle.volume.proofs.up.Up.flush.Goals as goal

pub returns : goal.returns
returns g c =
    let v = up_over {K = g.row.K.Denot} g.L.Medium g.S.PageStore c.args.self.now in
    let v' = up_over {K = g.row.K.Denot} g.L.Medium g.S.PageStore c.flush_page.new.self in
    let x = c.flush_page.ensures.flushed in
    let same : c.in_ok-page.page.number ≡ c.args.page = grind arith in
    record { flushed = (x.0, (flush-well v v' c.args.page x.0 (refusal c.flush_page.result) c.in_ok-self.was (omega (arith, c.in_ok-page.page.known)) (subst (λ p. FlushedWell v p x.0 (refusal c.flush_page.result) v') same x.1.0), x.1.1)) }
