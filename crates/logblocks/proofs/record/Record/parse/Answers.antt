use Rattle.std.proofs.Common.{◌≡◌, sym, ◌∙◌, rules}
use Rattle.std.proofs.ByRecursion.{All-from_get_or}
use Rattle.logblocks.specs.Blocks.{record_in}
use Rattle.logblocks.specs.Views.{viewed}
use Rattle.logblocks.proofs.BlockLaws.{read_back}
use Rattle.logblocks.proofs.record.Record.parse.Goals as goal

pub returns-clause-back : goal.returns-clause-back
returns-clause-back c =
    let bs = c.args.block.now in
    let v : viewed c.then.result ≡ record_in bs = search rules in
    λ e h. read_back bs (All-from_get_or _ bs 0 (λ i l. (c.type_inv.block i).fits)) e (sym v ∙ h)
