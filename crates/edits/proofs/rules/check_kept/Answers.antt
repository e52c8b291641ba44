use Rattle.std.proofs.Common.{refl, ◌∙◌, subst}
use Rattle.verdicts.specs.Edited.{EditFound}
use Rattle.edits.proofs.rules.check_kept.Goals as goal

pub returns-in-None : goal.returns-in-None
returns-in-None g c t rs s is =
    let found = c.first_broken.ensures t rs s.shape s.firewall is (c.used_rows-standing.ensures ∙ s.properties) s.kept in
    subst (EditFound g.A.Kind.holds g.R.Kind.holds t c.args.firewall rs) c.in-None.is found

pub returns-in-Some : goal.returns-in-Some
returns-in-Some g c t rs s is =
    let found = c.first_broken.ensures t rs s.shape s.firewall is (c.used_rows-standing.ensures ∙ s.properties) s.kept in
    (_, _, refl, subst (EditFound g.A.Kind.holds g.R.Kind.holds t c.args.firewall rs) c.in-Some.is found)
