use Rattle.std.proofs.Common.{◌≡◌, ℕ, ◌+◌, ◌-◌, Bool, not, unwrap_or, refl, ap, ◌∙◌, arith, rules, tests}
use Rattle.std.specs.List.{find, range_with_len}
use Rattle.std.proofs.lemmas.Iterator.{YieldsList-from_range}
use Rattle.std.proofs.lemmas.Iterator.Search.{find_from_yields_List}
use Rattle.volume.specs.LogReading.{bears, end_of}
use Rattle.volume.proofs.ReadingLaws.{end_found, found-as}
use Rattle.volume.proofs.log_reader.LogReader.end.Goals as goal

pub returns : goal.returns
returns g c =
    let m = g.L.Medium.model c.args.self.now.log.now in
    let f = c.args.first in
    let full = c.saturating_add-full.result in
    let test : ℕ → Bool = λ n. not (bears m n) in
    let first = find_from_yields_List test _ _ c.find.result c.find.ensures.ran (YieldsList-from_range f full (full - f) refl refl) (λ x b q k. search (rules, tests)) in
    let behind : full ≡ f + (full - f) = omega (arith, c.saturating_add-full.ensures, c.ranges.first.fits) in
    let all : full - f + (128 - (full - f)) ≡ 128 = omega (arith, c.saturating_add-full.ensures) in
    c.unwrap_or.ensures ∙ ap (λ o. unwrap_or o full) (found-as c.find.result ∙ first) ∙ ap (unwrap_or (find test (range_with_len f (full - f)))) behind
    ∙ end_found m f (full - f) (128 - (full - f)) (λ l. omega (arith, c.saturating_add-full.ensures)) (omega (arith, c.saturating_add-full.ensures))
    ∙ ap (end_of m f) all
