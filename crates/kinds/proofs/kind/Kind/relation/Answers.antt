use Rattle.kinds.proofs.Sharing.{share_common, inside_since}
use Rattle.kinds.proofs.Relations.{not_inside_parted}
use Rattle.kinds.proofs.kind.Kind.relation.Goals as goal

pub returns-in-None : goal.returns-in-None
returns-in-None g c = inside_since _ _ c.in-None.ensures (share_common _ _ _ c.in-Some.ensures (g.met.Self.Kind.inhabited c.in-Some.field-0))

pub returns-in-Some-split : goal.returns-in-Some-split
returns-in-Some-split g c =
    let laws = g.met.Self.Kind in
    let parts = c.in-Some-split.field-0 in (
      share_common _ _ _ c.in-Some.ensures (laws.inhabited c.in-Some.field-0),
      not_inside_parted _ _ (laws.inhabited parts.0) (laws.inhabited parts.1) c.in-Some-split.ensures,
    )
