use Rattle.std.proofs.Common.{sym, ap, ◌∙◌}
use Rattle.faults.specs.Faults.{refusal}
use Rattle.media.specs.Media.{block_at}
use Rattle.media.proofs.PlanLaws.{ran-wrote}
use Rattle.stores.specs.Images.{image_of}
use Rattle.stores.specs.Layout.{slot}
use Rattle.stores.specs.Plans.{image_write, every_page}
use Rattle.stores.proofs.PlanLaws.{page-out, page-in}
use Rattle.stores.proofs.blocks.bring_home.Goals as goal

pub returns-then-not-contains : goal.returns-then-not-contains
returns-then-not-contains g c =
    let m = g.M.Medium.model c.args.medium.now in
    record { ran = page-out 0 c.args.mark (λ p. image_of (block_at m (slot every_page p))) c.args.page.number m (sym c.if-not-contains.ensures) }

pub returns : goal.returns
returns g c =
    let m = g.M.Medium.model c.args.medium.now in
    let m' = g.M.Medium.model c.write.new.self in
    let p = c.args.page.number in
    let o = refusal c.write.result in
    record {
      ran = page-in 0 c.args.mark (λ p. image_of (block_at m (slot every_page p))) p m m' o (sym c.if-not-contains.ensures)
          (ran-wrote (image_write 0 (λ p. image_of (block_at m (slot every_page p))) p) m m' c.slot_of-2.result c.load_image.new.image o c.write.ensures.wrote c.slot_of-2.ensures
          (c.load_image.ensures.image ∙ ap (λ b. image_of (block_at m b)) c.slot_of.ensures));
    }
