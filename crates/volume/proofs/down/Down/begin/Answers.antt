use Rattle.faults.specs.Faults.{report, refusal}
use Rattle.volume.specs.Models.{down_over}
use Rattle.std.proofs.lemmas.Result.{err_from_is_err_and}
use Rattle.volume.proofs.FormatLaws.{ends-blanking, ends-installing, ends-heading}
use Rattle.volume.proofs.down.Down.begin.Goals as goal

pub returns-in_err-blank_log : goal.returns-in_err-blank_log
returns-in_err-blank_log g c =
    let e = down_over {K = g.row.K.Denot} g.L.Medium g.S.PageStore c.args.self.now in
    let p = err_from_is_err_and c.from_residual.result c.from_residual.ensures.1 in
    rw (p.1, p.2)
    (ends-blanking c.args.first e (g.L.Medium.model c.power_on.new.self.log) (g.L.Medium.model c.blank_log.new.log) (g.S.PageStore.meaning c.power_on.new.self.store) (g.S.PageStore.plan c.power_on.new.self.store) c.power_on.ensures.log c.power_on.ensures.store c.power_on.ensures.plan
    (report c.in_err-blank_log.field-0.0) c.in_err-blank_log.ensures)

pub returns-in_err-blank_store : goal.returns-in_err-blank_store
returns-in_err-blank_store g c =
    let e = down_over {K = g.row.K.Denot} g.L.Medium g.S.PageStore c.args.self.now in
    let s = c.blank_store.new.store in
    let p = err_from_is_err_and c.from_residual-in_err-blank_store.result c.from_residual-in_err-blank_store.ensures.1 in
    rw (p.1, p.2)
    (ends-installing c.args.first e (g.L.Medium.model c.power_on.new.self.log) (g.L.Medium.model c.blank_log.new.log) (g.S.PageStore.meaning c.power_on.new.self.store) (g.S.PageStore.plan c.power_on.new.self.store) c.power_on.ensures.log c.power_on.ensures.store c.power_on.ensures.plan
    (g.S.PageStore.meaning s) (g.S.PageStore.plan s) (report c.in_err-blank_store.field-0.0) c.in_ok-blank_log.ensures c.in_err-blank_store.ensures)

pub returns : goal.returns
returns g c =
    let e = down_over {K = g.row.K.Denot} g.L.Medium g.S.PageStore c.args.self.now in
    let s = c.blank_store.new.store in
    ends-heading c.args.first e (g.L.Medium.model c.power_on.new.self.log) (g.L.Medium.model c.blank_log.new.log) (g.S.PageStore.meaning c.power_on.new.self.store) (g.S.PageStore.plan c.power_on.new.self.store) c.power_on.ensures.log c.power_on.ensures.store c.power_on.ensures.plan
    (g.S.PageStore.meaning s) (g.S.PageStore.plan s) (refusal c.write.result) c.header_block.result (g.L.Medium.model c.write.new.self) c.header_block.ensures c.in_ok-blank_log.ensures c.in_ok-blank_store.ensures c.write.ensures.wrote
