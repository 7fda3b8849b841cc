use Rattle.redo.proofs.CountLaws.{no_groups_clean_lem}
use Rattle.redo.proofs.no_groups_clean.Goals as goal

pub returns : goal.returns
returns c = no_groups_clean_lem
