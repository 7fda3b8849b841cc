use Rattle.std.proofs.Common.{sym, ap, ◌∙◌, arith}
use Rattle.media.proofs.MediaLaws.{read_passes}
use Rattle.stores.specs.Images.{image_of}
use Rattle.stores.proofs.BlockLaws.{tail_cleared}
use Rattle.stores.proofs.blocks.load_image.Goals as goal

pub returns : goal.returns
returns g c =
    let m = g.M.Medium.model c.args.medium.now in
    let read = c.read.ensures.buffer ∙ sym (read_passes m c.args.block c.args.image.now c.requires.there c.told-image).1 in
    record { image = tail_cleared c.read.new.buffer c.fill.new.self (omega (arith, c.read.auto.buffer)) (c.fill.ensures.after (λ y e. e)) ∙ ap image_of read }
