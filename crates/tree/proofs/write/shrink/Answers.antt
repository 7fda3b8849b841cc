use Rattle.std.proofs.Common.{◌≡◌, length, replicate, refl, arith}
use Rattle.tree.specs.Nodes.{head_of}
use Rattle.tree.proofs.FrontLaws.{shrunk}
use Rattle.tree.proofs.write.shrink.Goals as goal

pub returns : goal.returns
returns c =
    let old = c.args.old.now in
    let ln : length c.place-3.new.new ≡ 224 = omega arith in
    shrunk (head_of 1 13) c.place_head.new.new c.place.new.new c.place-2.new.new c.place-3.new.new _ (replicate 104 0) _ old 4 104 108 212 c.requires.0 ln refl refl refl refl
    c.place_head.ensures c.place.ensures refl c.place-2.ensures refl c.place-3.ensures refl
