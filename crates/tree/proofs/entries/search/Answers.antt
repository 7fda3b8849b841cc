use Rattle.std.proofs.Common.{◌≡◌, eqb, sym, ap, ◌∙◌, rules, tests}
use Rattle.std.specs.List.{find as find_first}
use Rattle.std.specs.Option.{option_map}
use Rattle.std.proofs.lemmas.Iterator.Search.{find_from_yields_List}
use Rattle.std.proofs.lemmas.Iterator.Consumers.{YieldsList-from_first}
use Rattle.tree.specs.Nodes.{entries}
use Rattle.tree.specs.ListLaws.{find_is}
use Rattle.tree.specs.Views.{pair, left}
use Rattle.tree.proofs.entries.search.Goals as goal

pub returns : goal.returns
returns c =
    let es = entries c.args.c.now in
    let f : option_map pair c.find.result ≡ find_first (λ e. eqb e.0 c.args.key) es = find_from_yields_List (λ e. eqb e.0 c.args.key) c.find.new.self _ c.find.result c.find.ensures.ran (YieldsList-from_first pair left es c.of.ensures) (λ x b q t. search (rules, tests)) in
    let m : c.map.result ≡ option_map (λ e. e.1) (option_map pair c.find.result) = search (rules, tests) in
    m ∙ ap (option_map (λ e. e.1)) f ∙ sym (find_is c.args.key es)
