use Rattle.std.proofs.Common.{Some, None}
use Rattle.faults.specs.Faults.{report}
use Rattle.std.proofs.lemmas.Result.{err_from_is_err_and}
use Rattle.volume.specs.Models.{up_over}
use Rattle.volume.proofs.FlushLaws.{flush-refused, flush-done}
use Rattle.volume.proofs.up.Up.flush_page.Goals as goal

pub returns-in_err-check_flush : goal.returns-in_err-check_flush
returns-in_err-check_flush g c =
    let v = up_over {K = g.row.K.Denot} g.L.Medium g.S.PageStore c.args.self.now in
    let p = err_from_is_err_and c.from_residual.result c.from_residual.ensures.1 in
    rw (p.1, p.2)
    (record { flushed = (c.told-group.result.0, (flush-refused v v c.args.page.number c.told-group.result.0 c.told-group.result.1 (report c.in_err-check_flush.field-0.0) c.told-group.ensures c.in_err-check_flush.ensures, tt)) })

pub returns : goal.returns
returns g c =
    let v = up_over {K = g.row.K.Denot} g.L.Medium g.S.PageStore c.args.self.now in
    let v' = up_over {K = g.row.K.Denot} g.L.Medium g.S.PageStore c.install_group.new.self in
    record { flushed = (c.told-group.result.0, (flush-done v v' c.args.page.number c.told-group.result.0 c.told-group.result.1 None c.told-group.ensures c.in_ok-check_flush.ensures c.in_ok-install_group.ensures, c.size.ensures)) }

pub returns-in_err-install_group : goal.returns-in_err-install_group
returns-in_err-install_group g c =
    let v = up_over {K = g.row.K.Denot} g.L.Medium g.S.PageStore c.args.self.now in
    let v' = up_over {K = g.row.K.Denot} g.L.Medium g.S.PageStore c.install_group.new.self in
    let p = err_from_is_err_and c.from_residual-in_err-install_group.result c.from_residual-in_err-install_group.ensures.1 in
    rw (p.1, p.2)
    (record { flushed = (c.told-group.result.0, (flush-done v v' c.args.page.number c.told-group.result.0 c.told-group.result.1 (Some (report c.in_err-install_group.field-0.0)) c.told-group.ensures c.in_ok-check_flush.ensures c.in_err-install_group.ensures, tt)) })
