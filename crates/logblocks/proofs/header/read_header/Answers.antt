use Rattle.std.proofs.Common.{◌≡◌, sym, ◌∙◌, rules}
use Rattle.std.proofs.ByRecursion.{All-from_get_or}
use Rattle.logblocks.specs.Blocks.{header_in}
use Rattle.logblocks.proofs.BlockLaws.{header-back}
use Rattle.logblocks.proofs.header.read_header.Goals as goal

pub returns-clause-back : goal.returns-clause-back
returns-clause-back c =
    let bs = c.args.block.now in
    let v : c.then_some.result ≡ header_in bs = search rules in
    λ n e. header-back bs (All-from_get_or _ bs 0 (λ i l. (c.type_inv.block i).fits)) n (sym v ∙ e)
