use Rattle.pagesteps.proofs.StepLaws.{table-allowed}
use Rattle.pagesteps.proofs.table_allowed.Goals as goal

pub returns : goal.returns
returns c = table-allowed
