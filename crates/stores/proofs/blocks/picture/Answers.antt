use Rattle.std.proofs.Common.{ap, ◌∙◌}
use Rattle.stores.specs.Images.{pictured}
use Rattle.stores.proofs.BlockLaws.{image-front}
use Rattle.stores.proofs.blocks.picture.Goals as goal

pub returns : goal.returns
returns c = image-front c.args.images.now c.copy_from_slice.new.self c.index-at.result c.copy_from_slice.ensures.after ∙ ap (pictured c.args.images.now) c.index-at.ensures
