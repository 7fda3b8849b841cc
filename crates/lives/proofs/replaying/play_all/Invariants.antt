use Rattle.std.proofs.Common.{◌≡◌, take, drop}
use Rattle.lives.specs.Replays.{state_over, Replays}
use Rattle.lives.proofs.replaying.play_all.Given as goal

-- the calls so far are made and answered
abbrev pub invariant-loop-i : goal.invariant-loop-i
invariant-loop-i g l =
    (drop l.i l.answers ≡ drop l.i l.initial.answers)
    × Replays g.K.Kind.meaning (state_over g.L.Medium g.S.PageStore l.initial.volume) (take l.i l.calls) (take l.i l.answers) (state_over g.L.Medium g.S.PageStore l.volume)
