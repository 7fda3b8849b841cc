use Rattle.std.proofs.Common.{◌∙◌}
use Rattle.tables.specs.Waiting.{waiting}
use Rattle.volume.specs.Recovering.{ends_of}
use Rattle.volume.proofs.MountLaws.{mount-recovers}
use Rattle.volume.proofs.MountedLaws.{up_is, built, built-none}
use Rattle.volume.proofs.down.Down.mount.Goals as goal

pub returns : goal.returns
returns g c =
    let m = g.L.Medium.model c.args.self.log in
    let s = g.S.PageStore.meaning c.args.self.store in
    let plan = g.S.PageStore.plan c.args.self.store in
    let m' = g.L.Medium.model c.power_on.new.self.log in
    let s' = g.S.PageStore.meaning c.power_on.new.self.store in
    let plan' = g.S.PageStore.plan c.power_on.new.self.store in
    let waits = waiting c.none.result in
    let x = c.settled-recovered.result.0 in
    let status = c.settled-recovered.result.1 in
    record {
      up = up_is g.K.Kind.meaning m m' s s' plan plan' (built waits x status)
          c.power_on.ensures.log c.power_on.ensures.store c.power_on.ensures.plan
          (built-none waits x status m' s' plan' c.none.ensures ∙ c.settled-recovered.ensures (ends_of m' s' plan') ∙ c.recover.ensures);
      count = c.len-redone.ensures;
      recovers = mount-recovers g.K.Kind.meaning g.met.K.Kind.lawful (ends_of m s plan);
    }
