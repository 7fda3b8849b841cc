use Rattle.std.proofs.Common.{◌≡◌, ◌+◌, ◌<◌, drop, ap, ◌∙◌, arith}
use Rattle.std.proofs.ByRecursion.{All-from_get_or}
use Rattle.tree.specs.Nodes.{entries, before, hit}
use Rattle.tree.specs.NodeLaws.{byte_is, put-length, before-within, hit-small, length-entries, renew-put}
use Rattle.tree.proofs.steps.put.Goals as goal

pub overflow_add-i : goal.overflow_add-i
overflow_add-i g c =
    let o = g.O.KeyOrder.ordering in
    let es = entries c.args.old.now in
    let k = c.args.entry.key in
    let i : c.before-i.result ≡ before o k es = c.before-i.ensures in
    let h : c.from-skip.result ≡ hit k (drop (before o k es) es) = c.from-skip.ensures ∙ byte_is c.hit.result ∙ c.hit.ensures ∙ ap (λ i. hit k (drop i es)) i in
    let le = length-entries c.args.old.now c.requires.lengths.0 c.requires.few.0 (All-from_get_or (λ x. x < 256) c.args.old.now 0 (λ i l. (c.type_inv.old i).fits)) in
    let w = before-within o k es in
    let f = c.requires.few.0 in
    omega arith

pub splice-requires-clause-within : goal.splice-requires-clause-within
splice-requires-clause-within g c =
    let o = g.O.KeyOrder.ordering in
    let es = entries c.args.old.now in
    let k = c.args.entry.key in
    let i : c.before-i.result ≡ before o k es = c.before-i.ensures in
    let h : c.from-skip.result ≡ hit k (drop (before o k es) es) = c.from-skip.ensures ∙ byte_is c.hit.result ∙ c.hit.ensures ∙ ap (λ i. hit k (drop i es)) i in
    let le = length-entries c.args.old.now c.requires.lengths.0 c.requires.few.0 (All-from_get_or (λ x. x < 256) c.args.old.now 0 (λ i l. (c.type_inv.old i).fits)) in
    let w = before-within o k es in
    let s = hit-small k (drop (before o k es) es) in
    let pl = put-length o g.met.O.KeyOrder.ordered k c.args.entry.value es in
    let f = c.requires.few.1 in
    (omega arith, omega arith)

pub returns : goal.returns
returns g c =
    let o = g.O.KeyOrder.ordering in
    let es = entries c.args.old.now in
    let k = c.args.entry.key in
    let i : c.before-i.result ≡ before o k es = c.before-i.ensures in
    let h : c.from-skip.result ≡ hit k (drop (before o k es) es) = c.from-skip.ensures ∙ byte_is c.hit.result ∙ c.hit.ensures ∙ ap (λ i. hit k (drop i es)) i in
    c.splice.ensures
    ∙ renew-put c.args.old.now c.requires.lengths.0 c.requires.few.0 (All-from_get_or (λ x. x < 256) c.args.old.now 0 (λ i l. (c.type_inv.old i).fits))
    o g.met.O.KeyOrder.ordered c.args.mark k c.args.entry.value c.before-i.result (c.before-i.result + c.from-skip.result) i (omega arith)
