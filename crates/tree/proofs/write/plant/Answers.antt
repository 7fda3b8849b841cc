use Rattle.std.proofs.Common.{◌≡◌, length, replicate, refl, arith}
use Rattle.tree.specs.Nodes.{head_of, entry_bytes}
use Rattle.tree.proofs.FrontLaws.{planted}
use Rattle.tree.proofs.write.plant.Goals as goal

pub returns : goal.returns
returns c =
    let old = c.args.old.now in
    let ln : length c.place-2.new.new ≡ 224 = omega arith in
    planted (head_of 2 2) (entry_bytes (c.args.least, 1)) (entry_bytes (c.args.middle, 2)) c.place_head.new.new c.place_entry.new.new c.place_entry-2.new.new c.place.new.new c.place-2.new.new (replicate 192 0) _ old 4 212 c.requires.0 ln refl refl refl refl
    c.place_head.ensures c.place_entry.ensures c.place_entry-2.ensures c.place.ensures refl c.place-2.ensures refl
