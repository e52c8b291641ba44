use Rattle.tree.specs.Table.{shape_of}
use Rattle.tree.proofs.Links.{joined_none, unjoined}
use Rattle.tree.proofs.Tables.{sound_of}
use Rattle.tree.proofs.table.TreeTable.is_joined.Goals as goal

pub returns-in_err-upper : goal.returns-in_err-upper
returns-in_err-upper c = rw c.from_residual.ensures (joined_none (shape_of c.args.self.now) (sound_of c.args.self.now) c.args.firewall c.in_err-upper.ensures c.args.domain)

pub returns-in_err-lower : goal.returns-in_err-lower
returns-in_err-lower c = rw c.from_residual-in_err-lower.ensures (unjoined (shape_of c.args.self.now) c.args.firewall c.in_ok-upper.upper c.in_ok-upper.ensures c.args.domain c.if-upper-domain.false (c.in_err-lower.ensures c.args.firewall))
