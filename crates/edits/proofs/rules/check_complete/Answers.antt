use Rattle.std.proofs.Common.{refl, subst}
use Rattle.checks.specs.Breaks.{UnmatchedFound}
use Rattle.edits.proofs.rules.check_complete.Goals as goal

pub returns-in-None : goal.returns-in-None
returns-in-None g c t rs ea er is = subst (UnmatchedFound g.A.Kind.holds g.R.Kind.holds t rs) c.in-None.is (c.find_unmatched.ensures t rs ea er is)

pub returns-in-Some : goal.returns-in-Some
returns-in-Some g c t rs ea er is = (c.in-Some.packet, refl, subst (UnmatchedFound g.A.Kind.holds g.R.Kind.holds t rs) c.in-Some.is (c.find_unmatched.ensures t rs ea er is))
