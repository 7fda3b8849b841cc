use Rattle.std.proofs.Common.{sym, ap, ◌∙◌}
use Rattle.faults.specs.Faults.{report, refusal}
use Rattle.tables.specs.DirtyOps.{dirty}
use Rattle.volume.specs.Models.{up_over}
use Rattle.std.proofs.lemmas.Result.{err_from_is_err_and}
use Rattle.volume.proofs.RowLaws.{row_back}
use Rattle.volume.proofs.FlushLaws.{group-refused, group-passed}
use Rattle.volume.proofs.up.Up.install_group.Goals as goal

pub returns-in_err-settle : goal.returns-in_err-settle
returns-in_err-settle g c =
    let v = up_over {K = g.row.K.Denot} g.L.Medium g.S.PageStore c.args.self.now in
    let v₁ = up_over {K = g.row.K.Denot} g.L.Medium g.S.PageStore c.settle.new.self in
    let s = c.install-outcome.new.self in
    let row = row_back c.args.self.now.pages.images c.args.self.now.pages.sized ∙ sym c.all.ensures in
    let p = err_from_is_err_and c.from_residual.result c.from_residual.ensures.1 in
    rw (p.1, p.2)
    (group-refused v v₁ (refusal c.install-outcome.result) c.args.group c.all.result.now (g.S.PageStore.meaning s) (g.S.PageStore.plan s) row c.install-outcome.ensures.installed c.in_err-settle.ensures.after
    (report c.in_err-settle.field-0.0) (ap refusal c.in_err-settle.ensures.answer))

pub returns : goal.returns
returns g c =
    let v = up_over {K = g.row.K.Denot} g.L.Medium g.S.PageStore c.args.self.now in
    let v₁ = up_over {K = g.row.K.Denot} g.L.Medium g.S.PageStore c.settle.new.self in
    let s = c.install-outcome.new.self in
    let row = row_back c.args.self.now.pages.images c.args.self.now.pages.sized ∙ sym c.all.ensures in
    group-passed v v₁ (refusal c.install-outcome.result) c.args.group c.all.result.now (g.S.PageStore.meaning s) (g.S.PageStore.plan s) row c.install-outcome.ensures.installed c.in_ok-settle.ensures.after
    (dirty c.remove.new.self) (ap refusal c.in_ok-settle.ensures.answer) c.remove.ensures
