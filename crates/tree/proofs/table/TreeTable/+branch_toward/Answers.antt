use Rattle.std.proofs.Common.{arith}
use Rattle.model.proofs.Subtrees.{under_zero}
use Rattle.tree.specs.Table.{shape_of}
use Rattle.tree.proofs.Climbs.{branch_own, branch_more}
use Rattle.tree.proofs.Tables.{sound_of}
use Rattle.tree.proofs.table.TreeTable.+branch_toward.Goals as goal

pub returns-then-domain-eq0 : goal.returns-then-domain-eq0
returns-then-domain-eq0 t c = under_zero (shape_of c.args.self.now) (sound_of c.args.self.now) c.args.firewall c.args.domain (omega arith)

pub returns-then-up-firewall : goal.returns-then-up-firewall
returns-then-up-firewall t c = branch_own (shape_of c.args.self.now) c.args.domain c.args.firewall c.hop_up-up.result c.hop_up-up.ensures.from c.if-up-firewall.true

pub returns : goal.returns
returns t c = branch_more (shape_of c.args.self.now) c.args.domain c.hop_up-up.result c.hop_up-up.ensures.from c.hop_up-up.ensures.onto c.args.firewall c.branch_toward.result c.if-up-firewall.false c.branch_toward.ensures
