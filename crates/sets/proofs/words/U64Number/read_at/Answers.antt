use Rattle.std.proofs.Common.{◌∙◌, arith}
use Rattle.sets.proofs.WordLaws.{number-eight}
use Rattle.sets.proofs.words.U64Number.read_at.Goals as goal

pub returns : goal.returns
returns c = c.from_le_bytes.ensures ∙ number-eight c.bytes_at.result (omega arith) ∙ c.bytes_at.ensures
