use Rattle.model.proofs.Meanings.{one_decision}
use Rattle.model.proofs.theorems.complete_lists_decide_once.Goals as goal

pub returns : goal.returns
returns g c = one_decision _ _ g.met.A.Kind.decided g.met.R.Kind.decided
