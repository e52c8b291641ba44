use Rattle.kinds.proofs.Relations.{tells_no, not_inside_told}
use Rattle.kinds.proofs.relation.lies_inside.Goals as goal

pub returns-in-Apart : goal.returns-in-Apart
returns-in-Apart g c = tells_no (not_inside_told _ _ (g.met.K.Kind.inhabited c.args.a) _ c.relation.ensures c.in-Apart.is)
