use Rattle.std.proofs.Common.{refl}
use Rattle.kinds.proofs.Relations.{common_told}
use Rattle.kinds.proofs.pair.field_kind.common_around.Goals as goal

pub returns-then-lies_inside-2 : goal.returns-then-lies_inside-2
returns-then-lies_inside-2 g c = common_told g.K.Kind.holds _ _ _ (g.met.K.Kind.inhabited c.args.region) (c.if-lies_inside.ensures.0 refl) (c.if-lies_inside-2.ensures.0 refl) _ c.meet.ensures
