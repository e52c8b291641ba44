use lib.Seq.{take-set-lt}
use Rattle.tables.proofs.fixed_vec.FixedVec.set.Goals as goal

pub returns-clause-after : goal.returns-clause-after
returns-clause-after g c = take-set-lt _ _ _ _ c.if-index-self.false
