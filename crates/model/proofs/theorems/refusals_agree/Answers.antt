use Rattle.model.proofs.Agreement.{one_refusal}
use Rattle.model.proofs.theorems.refusals_agree.Goals as goal

pub returns : goal.returns
returns g c = one_refusal _ _
