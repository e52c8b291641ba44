use Rattle.std.proofs.Common.{refl}
use Rattle.kinds.proofs.Sides.{parted_left, parted_right}
use Rattle.kinds.proofs.Relations.{share_inside}
use Rattle.kinds.proofs.pair.field_kind.PairKind.split.Goals as goal

pub returns-in_ok-a-in-Inside : goal.returns-in_ok-a-in-Inside
returns-in_ok-a-in-Inside g c =
    rw (c.with_right.ensures, c.with_right-in-Inside.ensures) (parted_right _ _ _ _ _ _ c.in_ok-a-in-Inside.ensures (share_inside _ _ (g.met.L.Kind.inhabited c.args.self.left) c.in-Inside.ensures))

pub returns-in_ok-a-in-Crossing : goal.returns-in_ok-a-in-Crossing
returns-in_ok-a-in-Crossing g c =
    rw (c.with_left.ensures, c.with_left-in-Crossing.ensures) (parted_left _ _ _ _ _ _ c.in_ok-a-in-Crossing.ensures (c.if-not-share_a_value.ensures.0 refl))
