use Rattle.model.proofs.Meanings.{one_domain}
use Rattle.model.proofs.theorems.addresses_have_one_domain.Goals as goal

pub returns : goal.returns
returns g c = one_domain _ _ g.met.A.Kind.decided
