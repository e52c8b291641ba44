use Rattle.model.proofs.Guarding.{right_more}
use Rattle.model.proofs.theorems.right_entries_keep_records_lawful.Goals as goal

pub returns : goal.returns
returns g c = right_more _ _ g.met.A.Kind.decided g.met.A.Kind.inhabited
