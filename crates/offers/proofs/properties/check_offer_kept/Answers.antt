use Rattle.std.proofs.Common.{refl, subst}
use Rattle.verdicts.specs.Asked.{AskedFound}
use Rattle.offers.proofs.properties.check_offer_kept.Goals as goal

pub returns-in-None : goal.returns-in-None
returns-in-None g c t shape laid = subst (AskedFound g.A.Kind.holds g.R.Kind.holds t c.args.property) c.in-None.is (c.first_break.ensures t shape laid)

pub returns-in-Some : goal.returns-in-Some
returns-in-Some g c t shape laid =
    (_, _, refl, subst (AskedFound g.A.Kind.holds g.R.Kind.holds t c.args.property) c.in-Some.is (c.first_break.ensures t shape laid))
