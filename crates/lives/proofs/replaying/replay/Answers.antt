use Rattle.std.proofs.Common.{◌≤◌, arith}
use Rattle.lives.proofs.PlayFacts.{lived}
use Rattle.lives.proofs.replaying.replay.Goals as goal

pub returns-in-Ok : goal.returns-in-Ok
returns-in-Ok g c =
    let l : c.args.first ≤ 4294967295 = omega (arith, c.ranges.first.fits) in
    (c.play_all-volume.ensures.count, (c.play_all-volume.ensures.rest, lived _ g.met.K.Kind.lawful _ _ _ _ _ _ l c.in-Ok.ensures c.play_all-volume.ensures.played))
