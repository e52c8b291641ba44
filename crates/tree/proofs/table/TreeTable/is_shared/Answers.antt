use Rattle.std.proofs.Common.{sym, ◌∙◌}
use Rattle.model.specs.Shape.{Joined}
use Rattle.tree.specs.Table.{shape_of}
use Rattle.tree.proofs.Links.{found_decides, second_decides}
use Rattle.tree.proofs.table.TreeTable.is_shared.Goals as goal

pub returns-then-is_some : goal.returns-then-is_some
returns-then-is_some c =
    rw c.is_some-then-is_some.ensures (second_decides (Joined (shape_of c.args.self.now) c.args.firewall c.args.one) (Joined (shape_of c.args.self.now) c.args.firewall c.args.other) c.is_joined.result c.is_joined-then-is_some.result c.is_joined.ensures (sym c.is_some.ensures ∙ c.if-is_some.true) c.is_joined-then-is_some.ensures)

pub returns-else-is_some : goal.returns-else-is_some
returns-else-is_some c =
    let joined = (found_decides {P = Joined (shape_of c.args.self.now) c.args.firewall c.args.one} c.is_joined.result c.is_joined.ensures).1 in
    (λ e. cc, λ (i, j, a, b). c.is_some.ensures ∙ joined (i, a))
