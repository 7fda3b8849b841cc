use Rattle.std.proofs.Common.{◌∙◌, rules, subst}
use Rattle.faults.specs.Faults.{refusal}
use Rattle.media.specs.Media.{WroteBy}
use Rattle.media.proofs.PartLaws.{part-wrote, told_anew}
use Rattle.media.proofs.partition.PartitionMedium.write.Goals as goal

pub returns-clause-wrote : goal.returns-clause-wrote
returns-clause-wrote g c =
    let s = c.args.self.now in
    let m = g.M.Medium.model s.medium in
    let m' = g.M.Medium.model c.write.new.self in
    let at = c.in_ok-below.ensures in
    let w = c.write.ensures.wrote in
    let o = refusal c.write.result in
    let p = part-wrote s.first s.blocks m c.args.block at.1 w.0 c.args.data.now o m' (subst (λ b. WroteBy w.0 m b c.args.data.now o m') at.0 w.1) in
    (w.0, record { answer = told_anew c.args.block _ c.write.result c.map_err.result c.map_err.ensures.cases (λ e f h. search rules) ∙ p.answer; after = p.after })
