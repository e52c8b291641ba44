use Rattle.checks.proofs.Owners.{called_of}
use Rattle.checks.proofs.addresses.domain_of.Goals as goal

pub returns : goal.returns
returns g c t is =
    let a = g.A.Kind in
    rw c.domain_in.ensures (called_of a.holds g.R.Kind.holds a.plain a.region g.met.A.Kind.rereads t _ is c.args.address c.outcome_of.result c.outcome_of.ensures)
