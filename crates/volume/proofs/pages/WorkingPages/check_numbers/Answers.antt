use Rattle.std.proofs.Common.{◌≡◌, ℕ, Bool, leb, refl, sym, ap, ◌∙◌, rules, tests}
use Rattle.std.specs.Option.{option_map}
use Rattle.std.proofs.lemmas.Iterator.{YieldsList-from_range}
use Rattle.std.proofs.lemmas.Iterator.Search.{find_from_yields_List}
use Rattle.faults.specs.declared.fault.Fault.TheVariants.{NumberAhead}
use Rattle.faults.specs.Faults.{Report, report}
use Rattle.volume.specs.Working.{image_at, number_of}
use Rattle.volume.specs.Mounting.{ahead_fault}
use Rattle.volume.proofs.ReadingLaws.{found-as}
use Rattle.volume.proofs.RecoverLaws.{first-found}
use Rattle.volume.proofs.pages.WorkingPages.check_numbers.Goals as goal
use Rattle.volume.proofs.pages.WorkingPages.check_numbers.Goals.{After-find}

-- what the search finds is what the first check at fault is
found : (c : After-find) → option_map (λ p. report (NumberAhead p)) c.find.result ≡ ahead_fault (image_at c.args.self.now.images) c.args.next
found c =
    let test : ℕ → Bool = λ p. leb c.args.next (number_of (image_at c.args.self.now.images p)) in
    let fault : ℕ → Report = λ p. report (NumberAhead p) in
    let first = find_from_yields_List test _ _ c.find.result c.find.ensures.ran (YieldsList-from_range 0 64 64 refl refl) (λ x b q k. search (rules, tests)) in
    ap (option_map fault) (found-as c.find.result ∙ first) ∙ first-found test fault 64

pub returns-in-Some : goal.returns-in-Some
returns-in-Some c = ap (option_map (λ p. report (NumberAhead p))) (sym c.in-Some.is) ∙ found (goal.at.returns-in-Some c).After-find

pub returns-in-None : goal.returns-in-None
returns-in-None c = ap (option_map (λ p. report (NumberAhead p))) (sym c.in-None.is) ∙ found (goal.at.returns-in-None c).After-find
