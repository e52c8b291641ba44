use Rattle.std.proofs.Common.{refl, inr}
use Rattle.offers.proofs.offers.check_joined.Goals as goal

pub returns-in-None : goal.returns-in-None
returns-in-None g c = (refl, inr (c.in-Discard.is, λ n. c.in-None.ensures n.0 n.1 n.2 n.3 n.4))
