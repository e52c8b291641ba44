use Rattle.std.proofs.Common.{arith}
use Rattle.tree.specs.Table.{shape_of}
use Rattle.tree.proofs.Climbs.{child_low, child_own, child_more}
use Rattle.tree.proofs.Tables.{sound_of}
use Rattle.tree.proofs.table.TreeTable.+child_toward.Goals as goal

pub returns-then-domain-top : goal.returns-then-domain-top
returns-then-domain-top t c = child_low (shape_of c.args.self.now) (sound_of c.args.self.now) c.args.top c.args.domain (omega arith)

pub returns-then-above-top : goal.returns-then-above-top
returns-then-above-top t c = child_own (shape_of c.args.self.now) c.args.domain c.hop_up-above.result c.hop_up-above.ensures.from c.hop_up-above.ensures.onto c.args.top c.if-above-top.true

pub returns : goal.returns
returns t c = child_more (shape_of c.args.self.now) c.args.domain c.hop_up-above.result c.hop_up-above.ensures.from c.hop_up-above.ensures.onto c.args.top c.child_toward.result c.if-above-top.false c.child_toward.ensures
