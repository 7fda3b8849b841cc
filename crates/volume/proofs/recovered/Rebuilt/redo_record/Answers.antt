use Rattle.std.proofs.Common.{sym, ap, ◌∙◌}
use Rattle.logblocks.specs.Views.{view, viewed}
use Rattle.volume.specs.Performing.{outcome}
use Rattle.volume.specs.Mounting.{record_redone}
use Rattle.volume.specs.Recovering.{redone_in}
use Rattle.volume.proofs.RecoverLaws.{entry_read, redone-numbered, redone-missing, refused-neither}
use Rattle.volume.proofs.recovered.Rebuilt.redo_record.Goals as goal

pub returns-then-not-is_missing : goal.returns-then-not-is_missing
returns-then-not-is_missing g c =
    let k = g.K.Kind.meaning in
    let s = redone_in c.args.self.now in
    let e = view c.in_ok-logged.logged in
    refused-neither k c.args.n e s (sym c.if-is_installed.ensures) (sym c.if-not-is_missing.ensures)
    ∙ ap (λ x. record_redone k c.args.n x s) (entry_read e c.args.block.now (ap viewed (sym c.in_ok-logged.ensures.ok_part) ∙ c.parse.ensures.value))

pub returns : goal.returns
returns g c =
    let k = g.K.Kind.meaning in
    let s = redone_in c.args.self.now in
    let e = view c.in_ok-logged.logged in
    c.redo_missing.ensures
    ∙ redone-numbered c.args.n e (outcome k e.body e.reads s.images) s
    ∙ redone-missing k c.args.n e s (sym c.if-is_installed.ensures) (sym c.if-not-is_missing.ensures)
    ∙ ap (λ x. record_redone k c.args.n x s) (entry_read e c.args.block.now (ap viewed (sym c.in_ok-logged.ensures.ok_part) ∙ c.parse.ensures.value))
