use Rattle.faults.specs.Faults.{refusal}
use Rattle.stores.proofs.StoreLaws.{checked}
use Rattle.stores.proofs.on_medium.MediumStorePageStore.install.Goals as goal

pub returns : goal.returns
returns g c =
    let allowed = c.in_ok-all.ensures in
    let done = c.install.ensures in
    let r = checked g.W.Way.writes g.W.Way.plan (g.M.Medium.model c.args.self.now.medium) (g.M.Medium.model c.install.new.medium) c.args.set c.args.images.now _ (refusal c.install.result) allowed.answer allowed.images (done.ran, done.installed) in
    record { installed = r.0; carried = r.1 }
