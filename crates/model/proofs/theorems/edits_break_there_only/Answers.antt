use Rattle.model.proofs.Meanings.{breaks_there_only}
use Rattle.model.proofs.theorems.edits_break_there_only.Goals as goal

pub returns : goal.returns
returns g c = breaks_there_only _ _
