use Rattle.rebuild.proofs.Rebuilt.{listings_rebuild}
use Rattle.rebuild.proofs.laws.listings_rebuild.Goals as goal

pub returns : goal.returns
returns g c = listings_rebuild _ _ g.met.A.Kind.inhabited g.met.R.Kind.inhabited g.met.A.Kind.decided g.met.R.Kind.decided
