use Rattle.std.proofs.Common.{◌≡◌, ◌+◌, ◌*◌, length, replicate, refl, arith}
use Rattle.tree.specs.Nodes.{head_of}
use Rattle.tree.proofs.FrontLaws.{halved, between_part}
use Rattle.tree.proofs.write.halve.Goals as goal

pub returns : goal.returns
returns c =
    let old = c.args.old.now in
    let s = 4 + 8 * c.args.from in
    let ln : length c.place-2.new.new ≡ 224 = omega arith in
    halved (head_of 1 13) c.place_head.new.new c.place.new.new c.place-2.new.new _ (replicate 116 0) old 4 s 104 108 c.requires.0 ln refl refl refl (omega arith)
    c.place_head.ensures c.place.ensures (between_part s (108 + 8 * c.args.from) 104 old (omega arith)) c.place-2.ensures refl
