use Rattle.std.proofs.Common.{◌≡◌, ◌<◌, ◌≤◌, true, [], ◌∷◌, Ok, Err, sym, ap, ◌∙◌, ap₂, arith}
use Rattle.std.proofs.ByRecursion.{All-from_get_or}
use Rattle.std.proofs.lemmas.Bool.{cond-true}
use Rattle.kinds.specs.Kinds.{filled}
use Rattle.tree.specs.Nodes.{count, renew, full_leaf, middle_key}
use Rattle.tree.specs.Steps.{grow}
use Rattle.tree.specs.NodeLaws.{renew-plant}
use Rattle.tree.specs.TreeLaws.{full_count}
use Rattle.tree.proofs.steps.grow.Goals as goal

pub returns-clause-buffer : goal.returns-clause-buffer
returns-clause-buffer g c =
    let o = g.O.KeyOrder.ordering in
    let old = c.args.old.now in
    let is : full_leaf o old ≡ true = sym c.if-not-is_full_leaf.ensures in
    let full : count old ≡ 26 = full_count o old is in
    let few : count old ≤ 26 = omega arith in
    let x = c.least_key.result in
    let y = c.key_at.result in
    let r : grow o old ≡ Ok (renew 2 ((o.least, 1) ∷ ((middle_key old, 2) ∷ [])) old) = cond-true (full_leaf o old) (Ok (renew 2 ((o.least, 1) ∷ ((middle_key old, 2) ∷ [])) old)) (Err 3) is in
    c.plant.ensures ∙ renew-plant old c.requires.0 few (All-from_get_or (λ x. x < 256) old 0 (λ i l. (c.type_inv.old i).fits)) x y full
    ∙ ap₂ (λ a b. renew 2 ((a, 1) ∷ ((b, 2) ∷ [])) old) c.least_key.ensures c.key_at.ensures ∙ ap (λ x. filled x c.args.new.now) (sym r)
