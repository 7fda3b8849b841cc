use Rattle.std.proofs.Common.{◌≡◌, ◌<◌, ◌≤◌, true, take, drop, Ok, Err, sym, ap, ◌∙◌, arith}
use Rattle.std.proofs.ByRecursion.{All-from_get_or}
use Rattle.std.proofs.lemmas.Bool.{cond-true}
use Rattle.kinds.specs.Kinds.{filled}
use Rattle.tree.specs.Nodes.{count, entries, renew, full_leaf}
use Rattle.tree.specs.Steps.{blank, half}
use Rattle.tree.specs.NodeLaws.{renew-half}
use Rattle.tree.specs.TreeLaws.{full_count}
use Rattle.tree.proofs.steps.half.Goals as goal

pub returns-clause-buffer : goal.returns-clause-buffer
returns-clause-buffer g c =
    let o = g.O.KeyOrder.ordering in
    let old = c.args.old.now in
    let i = c.args.from in
    let is : full_leaf o old ≡ true = sym c.if-not-is_full_leaf.ensures in
    let full : count old ≡ 26 = full_count o old is in
    let few : count old ≤ 26 = omega arith in
    let r : half o i old ≡ Ok (renew 1 (take 13 (drop i (entries old))) blank) = cond-true (full_leaf o old) (Ok (renew 1 (take 13 (drop i (entries old))) blank)) (Err 3) is in
    c.halve.ensures ∙ renew-half old c.requires.0 few (All-from_get_or (λ x. x < 256) old 0 (λ i l. (c.type_inv.old i).fits)) i c.requires.1.1 full ∙ ap (λ x. filled x c.args.new.now) (sym r)
