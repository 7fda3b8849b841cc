use Rattle.std.proofs.Common.{◌∙◌, subst}
use Rattle.faults.specs.Faults.{refusal}
use Rattle.stores.specs.Stores.{Installed}
use Rattle.volume.specs.Formatting.{all_pages}
use Rattle.volume.proofs.format.blank_store.Goals as goal

pub returns : goal.returns
returns g c =
    subst (λ x. Installed (g.S.PageStore.meaning c.args.store.now) (g.S.PageStore.plan c.args.store.now all_pages) all_pages x (refusal c.install.result) (g.S.PageStore.meaning c.install.new.self))
    (c.all.ensures ∙ c.blank-blank.ensures) c.install.ensures.installed
