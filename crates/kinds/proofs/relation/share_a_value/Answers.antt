use Rattle.kinds.proofs.Relations.{tells_yes, shares_told}
use Rattle.kinds.proofs.relation.share_a_value.Goals as goal

pub returns-in-Inside : goal.returns-in-Inside
returns-in-Inside g c = tells_yes (shares_told _ _ (g.met.K.Kind.inhabited c.args.a) _ c.relation.ensures c.in-Inside.is)
