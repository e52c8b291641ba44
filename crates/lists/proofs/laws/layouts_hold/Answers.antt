use Rattle.lists.proofs.Laid.{layout_laws}
use Rattle.lists.proofs.laws.layouts_hold.Goals as goal

pub returns : goal.returns
returns g c = layout_laws
