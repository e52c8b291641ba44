use Rattle.std.proofs.Common.{◌∙◌, sym, eq-eqb}
use Rattle.tree.specs.Table.{shape_of}
use Rattle.tree.proofs.Links.{used_up, used_below}
use Rattle.tree.proofs.table.TreeTable.in_use.Goals as goal

pub returns-then-from-interface : goal.returns-then-from-interface
returns-then-from-interface c = (
  λ e. used_up (shape_of c.args.self.now) c.args.firewall c.in-Some.upper c.in-Some.ensures c.args.interface (sym c.from.ensures ∙ c.if-from-interface.true),
  λ used. eq-eqb c.from.result c.args.interface c.if-from-interface.true,
)

pub returns-else-from-interface : goal.returns-else-from-interface
returns-else-from-interface c =
    used_below (shape_of c.args.self.now) c.args.firewall c.in-Some.upper c.in-Some.ensures c.has_row.result c.args.interface (λ e. c.if-from-interface.false (c.from.ensures ∙ e)) (rw c.as_slice.ensures at c.has_row.ensures)
