use Rattle.std.proofs.Common.{◌≡◌, ◌≤◌, length, get_or, sym, ap, ◌∙◌, arith, rules}
use Rattle.std.proofs.lemmas.List.{take_rest, get_or_past}
use Rattle.std.proofs.lemmas.Bool.Decides.{nat_tests}
use Rattle.kinds.specs.Kinds.{answer, filled, reply}
use Rattle.kinds.specs.Refusals.{named}
use Rattle.kinds.specs.PairLaws.{pair_first, pair_second, pair_neither}
use Rattle.kinds.proofs.pair.PairKind.effect.Goals as goal

pub returns-in-1 : goal.returns-in-1
returns-in-1 g c =
    let b = c.args.body.now in
    let old = c.args.old.now in
    let new = c.args.new.now in
    let tag : get_or b 0 0 ≡ 1 = search rules in
    let r = ap (λ t. reply g.A.Kind.meaning t old (length new)) (take_rest b 1) ∙ sym (pair_first g.A.Kind.meaning g.B.Kind.meaning b old (length new) tag).1 in
    record { answer = c.effect.ensures.answer ∙ ap (λ x. named (answer x)) r; buffer = c.effect.ensures.buffer ∙ ap (λ x. filled x new) r }

pub returns-in-2 : goal.returns-in-2
returns-in-2 g c =
    let b = c.args.body.now in
    let old = c.args.old.now in
    let new = c.args.new.now in
    let tag : get_or b 0 0 ≡ 2 = search rules in
    let r = ap (λ t. reply g.B.Kind.meaning t old (length new)) (take_rest b 1) ∙ sym (pair_second g.A.Kind.meaning g.B.Kind.meaning b old (length new) tag).1 in
    record { answer = c.effect-in-2.ensures.answer ∙ ap (λ x. named (answer x)) r; buffer = c.effect-in-2.ensures.buffer ∙ ap (λ x. filled x new) r }

pub returns-in_default : goal.returns-in_default
returns-in_default g c =
    let b = c.args.body.now in
    let past : length b ≤ 0 = grind (arith, nat_tests) in
    let z = get_or_past b 0 0 past in
    let r = (pair_neither g.A.Kind.meaning g.B.Kind.meaning b c.args.old.now (length c.args.new.now) (λ e. omega arith) (λ e. omega arith)).1 in
    record { answer = ap (λ x. named (answer x)) (sym r); buffer = ap (λ x. filled x c.args.new.now) (sym r) }

pub returns-in_default-2 : goal.returns-in_default-2
returns-in_default-2 g c =
    let b = c.args.body.now in
    let r = (pair_neither g.A.Kind.meaning g.B.Kind.meaning b c.args.old.now (length c.args.new.now) (λ e. grind arith) (λ e. grind arith)).1 in
    record { answer = ap (λ x. named (answer x)) (sym r); buffer = ap (λ x. filled x c.args.new.now) (sym r) }
