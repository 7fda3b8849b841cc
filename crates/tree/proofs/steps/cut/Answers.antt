use Rattle.std.proofs.Common.{◌≡◌, ◌<◌, ◌≤◌, true, false, ◌++◌, length, take, drop, replicate, Ok, Err, sym, ap, ◌∙◌, ap₂, arith}
use Rattle.std.proofs.ByRecursion.{All-from_get_or, All-take, All-drop}
use Rattle.std.proofs.lemmas.List.{length-take-le, length-drop, take_all}
use Rattle.std.proofs.lemmas.Bool.{cond-true, cond-false}
use Rattle.kinds.specs.Kinds.{answer, filled}
use Rattle.sets.specs.Words.{part}
use Rattle.tree.specs.Nodes.{count, entries, put, renew, middle_key, head_of}
use Rattle.tree.specs.Steps.{cut, cut_form}
use Rattle.tree.specs.NodeLaws.{put-length, length-entries, renew-shrink, two-pages}
use Rattle.tree.specs.TreeLaws.{cut_parts}
use Rattle.tree.proofs.steps.cut.Goals as goal

pub returns-then-not-can_cut : goal.returns-then-not-can_cut
returns-then-not-can_cut g c =
    let o = g.O.KeyOrder.ordering in
    let old = c.args.old.now in
    let q = c.args.q in
    let leaf : take 224 (drop 224 old) ≡ drop 224 old = take_all 224 (drop 224 old) (simp length-drop (omega arith)) in
    let isnt : cut_form o q (take 224 old) (drop 224 old) ≡ false = ap (cut_form o q (take 224 old)) (sym leaf) ∙ sym c.if-not-can_cut.ensures in
    let r : cut o q (take 224 old) (drop 224 old) ≡ Err 3 = cond-false (cut_form o q (take 224 old) (drop 224 old)) _ (Err 3) isnt in
    record { answer = ap answer (sym r); buffer = ap (λ x. filled x c.args.new.now) (sym r) }

pub put-requires : goal.put-requires
put-requires g c =
    let o = g.O.KeyOrder.ordering in
    let old = c.args.old.now in
    let q = c.args.q in
    let all = All-take (λ x. x < 256) 224 old (All-from_get_or (λ x. x < 256) old 0 (λ i l. (c.type_inv.old i).fits)) in
    let parts = cut_parts o q (take 224 old) (take 224 (drop 224 old)) (sym c.if-not-can_cut.ensures) in
    let lr : length (take 224 old) ≡ 224 = length-take-le 224 old (omega arith) in
    let ln : length (take 224 c.args.new.now) ≡ 224 = length-take-le 224 c.args.new.now (omega arith) in
    let few : count (take 224 old) ≤ 26 = omega arith in
    let qe : c.from.result ≡ q = c.from.ensures in
    let le = length-entries (take 224 old) lr few all in
    let pl = put-length o g.met.O.KeyOrder.ordered c.key_at.result c.from.result (entries (take 224 old)) in
    record { lengths = (lr, ln); few = (few, omega arith) }

pub returns : goal.returns
returns g c =
    let o = g.O.KeyOrder.ordering in
    let old = c.args.old.now in
    let new = c.args.new.now in
    let q = c.args.q in
    let every = All-from_get_or (λ x. x < 256) old 0 (λ i l. (c.type_inv.old i).fits) in
    let leaf : take 224 (drop 224 old) ≡ drop 224 old = take_all 224 (drop 224 old) (simp length-drop (omega arith)) in
    let is : cut_form o q (take 224 old) (drop 224 old) ≡ true = ap (cut_form o q (take 224 old)) (sym leaf) ∙ sym c.if-not-can_cut.ensures in
    let parts = cut_parts o q (take 224 old) (drop 224 old) is in
    let ll : length (drop 224 old) ≡ 224 = simp length-drop (omega arith) in
    let few : count (drop 224 old) ≤ 26 = omega arith in
    let k : c.key_at.result ≡ middle_key (drop 224 old) = c.key_at.ensures ∙ ap middle_key leaf in
    let root : c.put.new.new ≡ renew 2 (put o (middle_key (drop 224 old)) q (entries (take 224 old))) (take 224 old) = c.put.ensures ∙ ap₂ (λ x y. renew 2 (put o x y (entries (take 224 old))) (take 224 old)) k c.from.ensures in
    let low : c.shrink.new.new ≡ renew 1 (take 13 (entries (drop 224 old))) (drop 224 old) =
    c.shrink.ensures ∙ ap (λ t. head_of 1 13 ++ (part 4 104 t ++ (replicate 104 0 ++ drop 212 t))) leaf ∙ renew-shrink (drop 224 old) ll few (All-drop (λ x. x < 256) 224 old every) parts.0 in
    let lx : length c.put.new.new ≡ 224 = c.put.auto.new ∙ length-take-le 224 new (omega arith) in
    let r : cut o q (take 224 old) (drop 224 old) ≡ Ok (renew 2 (put o (middle_key (drop 224 old)) q (entries (take 224 old))) (take 224 old) ++ renew 1 (take 13 (entries (drop 224 old))) (drop 224 old)) = cond-true (cut_form o q (take 224 old) (drop 224 old)) _ (Err 3) is in
    record { answer = ap answer (sym r); buffer = two-pages 224 new c.put.new.new c.shrink.new.new c.requires.1.0 lx ∙ ap₂ ◌++◌ root low ∙ ap (λ x. filled x new) (sym r) }
