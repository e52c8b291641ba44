use Rattle.std.proofs.Common.{refl}
use Rattle.kinds.proofs.Sides.{inside_left, inside_right, apart_left}
use Rattle.kinds.proofs.pair.field_kind.PairKind.separate.Goals as goal

pub separate-right-requires-clause-inside : goal.separate-right-requires-clause-inside
separate-right-requires-clause-inside g c = inside_right _ _ _ _ (g.met.L.Kind.inhabited c.args.self.left) c.requires.inside

pub separate-left-requires-clause-inside : goal.separate-left-requires-clause-inside
separate-left-requires-clause-inside g c = inside_left _ _ _ _ (g.met.R.Kind.inhabited c.args.self.right) c.requires.inside

pub separate-left-requires-clause-apart : goal.separate-left-requires-clause-apart
separate-left-requires-clause-apart g c = apart_left _ _ _ _ (c.if-not-share_a_value-3.ensures.0 refl) c.requires.apart
