use Rattle.std.proofs.Common.{refl, arith}
use Rattle.model.specs.Shape.{top, under}
use Rattle.tree.proofs.table.TreeTable.+depth_of.Goals as goal

pub returns-then-domain-eq0-clause-depth : goal.returns-then-domain-eq0-clause-depth
returns-then-domain-eq0-clause-depth t c = top (omega arith) refl

pub returns-clause-depth : goal.returns-clause-depth
returns-clause-depth t c = under c.hop_up.ensures.from c.hop_up.ensures.onto c.depth_of.ensures.depth (omega arith)
