use Rattle.std.proofs.Common.{sym}
use Rattle.faults.specs.Faults.{refusal}
use Rattle.media.proofs.PlanLaws.{ran-wrote}
use Rattle.stores.specs.Images.{pictured}
use Rattle.stores.specs.Plans.{image_write}
use Rattle.stores.proofs.PlanLaws.{page-out, page-in}
use Rattle.stores.proofs.blocks.put_image.Goals as goal

pub returns-then-not-contains : goal.returns-then-not-contains
returns-then-not-contains g c =
    let m = g.M.Medium.model c.args.medium.now in
    record { ran = page-out c.args.upper c.args.set (pictured c.args.images.now) c.args.page.number m (sym c.if-not-contains.ensures) }

pub returns : goal.returns
returns g c =
    let m = g.M.Medium.model c.args.medium.now in
    let m' = g.M.Medium.model c.write.new.self in
    let f = pictured c.args.images.now in
    record {
      ran = page-in c.args.upper c.args.set f c.args.page.number m m' (refusal c.write.result) (sym c.if-not-contains.ensures)
          (ran-wrote (image_write c.args.upper f c.args.page.number) m m' c.slot_of.result c.picture-block.result (refusal c.write.result) c.write.ensures.wrote c.slot_of.ensures c.picture-block.ensures);
    }
