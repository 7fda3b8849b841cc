use Rattle.std.proofs.Common.{rules}
use Rattle.sets.specs.Sets.{Meet}
use Rattle.graph.specs.Rows.{row}
use Rattle.graph.proofs.RowLaws.{pages-tested}
use Rattle.graph.proofs.GroupLaws.{row-within}
use Rattle.graph.proofs.groups.sources.Goals as goal

pub returns : goal.returns
returns c =
    pages-tested (λ q. Meet (row c.args.rows.now q) c.args.set) c.pages_where.result c.pages_where.ensures.within
    (λ q m. row-within c.args.rows.now q m.0 (search rules) m.1)
    (λ q l. let h = c.pages_where.ensures.tested q l in search rules)
