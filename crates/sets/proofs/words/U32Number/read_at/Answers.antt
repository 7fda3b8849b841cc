use Rattle.std.proofs.Common.{◌∙◌, arith}
use Rattle.sets.proofs.WordLaws.{number-four}
use Rattle.sets.proofs.words.U32Number.read_at.Goals as goal

pub returns : goal.returns
returns c = c.from_le_bytes.ensures ∙ number-four c.bytes_at.result (omega arith) ∙ c.bytes_at.ensures
