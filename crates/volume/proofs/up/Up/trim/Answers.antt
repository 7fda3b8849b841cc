use Rattle.std.proofs.Common.{sym, ap}
use Rattle.std.proofs.lemmas.Bool.{eqb-false}
use Rattle.faults.specs.Faults.{report, refusal}
use Rattle.std.proofs.lemmas.Result.{err_from_is_err_and}
use Rattle.volume.specs.Models.{up_over}
use Rattle.volume.proofs.TrimLaws.{trim-refused}
use Rattle.volume.proofs.up.Up.trim.Goals as goal

pub returns-in_err-settle : goal.returns-in_err-settle
returns-in_err-settle g c =
    let v = up_over {K = g.row.K.Denot} g.L.Medium g.S.PageStore c.args.self.now in
    let v' = up_over {K = g.row.K.Denot} g.L.Medium g.S.PageStore c.settle.new.self in
    let p = err_from_is_err_and c.from_residual-in_err-settle.result c.from_residual-in_err-settle.ensures.1 in
    rw (p.1, p.2)
    (record {
      trimmed = trim-refused v v' (refusal c.write-outcome.result) (report c.in_err-settle.field-0.0) c.needed_from-first.result c.header_block.result (g.L.Medium.model c.write-outcome.new.self) c.in_ok-self.was c.needed_from-first.ensures (eqb-false c.needed_from-first.result c.args.self.now.first (sym c.if-starts_at.ensures)) c.header_block.ensures c.write-outcome.ensures.wrote (ap refusal c.in_err-settle.ensures.answer) c.in_err-settle.ensures.after;
      number = tt;
    })
