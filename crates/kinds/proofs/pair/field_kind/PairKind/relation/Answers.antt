use Rattle.kinds.proofs.Relations.{shares_told}
use Rattle.kinds.proofs.Sides.{related_right, crossing_left}
use Rattle.kinds.proofs.pair.field_kind.PairKind.relation.Goals as goal

pub returns-in-Inside : goal.returns-in-Inside
returns-in-Inside g c = related_right _ _ _ _ (g.met.L.Kind.inhabited c.args.self.left) c.in-Inside.ensures _ c.relation-in-Inside.ensures

pub returns-in-Inside-relation : goal.returns-in-Inside-relation
returns-in-Inside-relation g c =
    let o = g.met.R.Kind.inhabited c.args.self.right in
    crossing_left _ _ _ _ o c.in-Crossing.ensures (shares_told _ _ o _ c.relation-in-Crossing.ensures c.in-Inside-relation.is)
