use Rattle.pagesteps.proofs.StepLaws.{page-steps}
use Rattle.pagesteps.proofs.page_steps.Goals as goal

pub returns : goal.returns
returns c = page-steps
