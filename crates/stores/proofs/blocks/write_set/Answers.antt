use Rattle.std.proofs.Common.{refl}
use Rattle.faults.specs.Faults.{refusal}
use Rattle.media.proofs.PlanLaws.{ran-wrote}
use Rattle.stores.specs.Plans.{set_write}
use Rattle.stores.proofs.blocks.write_set.Goals as goal

pub returns : goal.returns
returns g c =
    let m = g.M.Medium.model c.args.medium.now in
    let m' = g.M.Medium.model c.write.new.self in
    record { ran = ran-wrote (set_write c.args.set) m m' 128 c.set_block-block.result (refusal c.write.result) c.write.ensures.wrote refl c.set_block-block.ensures }
