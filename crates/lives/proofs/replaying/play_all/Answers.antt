use Rattle.std.proofs.Common.{◌<◌, length, refl, sym, ◌∙◌, arith}
use Rattle.std.proofs.lemmas.List.{get_or-take, get_or_default, length-take}
use Rattle.lives.proofs.PlayFacts.{replays-none, replays-more, rest-still}
use Rattle.lives.proofs.replaying.play_all.Goals as goal

pub loop-i-init : goal.loop-i-init
loop-i-init g c = (refl, replays-none _ _ c.args.calls.now c.args.answers.now)

pub loop-i-preserved : goal.loop-i-preserved
loop-i-preserved g c =
    let cs = c.args.calls.now in
    let i = c.loop-i.i in
    let n = c.min-n.result in
    let ln : i < n = omega (arith, length-take n cs, c.loop-i-test.true) in
    let lc : i < length cs = omega (arith, c.min-n.ensures, ln) in
    let la : i < length c.loop-i.answers = omega (arith, c.min-n.ensures, ln, c.loop-i.auto.answers) in
    (rest-still c.loop-i.answers c.args.answers.now i c.play-next.result.1 c.loop-i.invariant.0, replays-more _ _ _ _ cs c.loop-i.answers i _ c.play-next.result.1 lc la (get_or_default cs i _ _ lc ∙ sym (get_or-take n cs i _ ln)) c.loop-i.invariant.1 c.play-next.ensures)
