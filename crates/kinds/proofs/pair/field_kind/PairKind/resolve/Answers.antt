use Rattle.kinds.proofs.Sides.{covered_left, covered_right}
use Rattle.kinds.proofs.pair.field_kind.PairKind.resolve.Goals as goal

pub resolve-right-requires : goal.resolve-right-requires
resolve-right-requires g c = covered_right _ _ _ _ _ _ (g.met.L.Kind.inhabited c.args.self.left) c.requires

pub resolve-requires : goal.resolve-requires
resolve-requires g c = covered_left _ _ _ _ _ _ (g.met.R.Kind.inhabited c.args.self.right) c.requires
