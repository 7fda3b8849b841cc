use Rattle.std.proofs.Common.{◌≡◌, ◌+◌, ◌-◌, leb, length, drop, sym, ap, ◌∙◌, arith}
use Rattle.tree.specs.Nodes.{count, entries, before, hit}
use Rattle.tree.specs.NodeLaws.{byte_is, put-length, length-entries_of}
use Rattle.tree.proofs.steps.fits.Goals as goal

pub returns : goal.returns
unfolding entries
returns g c v =
    let o = g.O.KeyOrder.ordering in
    let es = entries c.args.c.now in
    let k = c.args.key in
    let h : c.from.result ≡ hit k (drop (before o k es) es) = c.from.ensures ∙ byte_is c.hit.result ∙ c.hit.ensures ∙ ap (λ i. hit k (drop i es)) c.before-i.ensures in
    let le = length-entries_of (count c.args.c.now) (drop 4 c.args.c.now) in
    let n = c.count.ensures in
    let e : c.count.result + 1 - c.from.result ≡ length es + 1 - hit k (drop (before o k es) es) = omega arith in
    ap (λ m. leb m 26) (e ∙ sym (put-length o g.met.O.KeyOrder.ordered k v es))
