use Rattle.std.proofs.Common.{subst}
use Rattle.verdicts.specs.Misplaced.{SourceFound}
use Rattle.verdicts.proofs.Strays.{then_destination}
use Rattle.verdicts.proofs.misplaced.astray_in.Goals as goal

pub returns-in-None : goal.returns-in-None
returns-in-None g c t blocks =
    let p = c.args.property in
    let none = subst (SourceFound g.A.Kind.holds g.R.Kind.holds t p) c.in-None.is (c.source_astray.ensures t blocks) in
    then_destination g.A.Kind.holds g.R.Kind.holds t p none c.find_astray.result (c.find_astray.ensures t blocks)
