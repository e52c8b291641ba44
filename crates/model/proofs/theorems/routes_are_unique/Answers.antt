use Rattle.model.proofs.Agreement.{one_route}
use Rattle.model.proofs.theorems.routes_are_unique.Goals as goal

pub returns : goal.returns
returns g c = one_route _ _
