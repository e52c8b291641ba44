use Rattle.model.proofs.Meanings.{cut_short}
use Rattle.model.proofs.theorems.lawful_records_can_be_cut_short.Goals as goal

pub returns : goal.returns
returns g c = cut_short _ _
