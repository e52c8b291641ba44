use Rattle.std.proofs.Common.{◌≤◌, ◌⊎◌, subst}
use Rattle.model.specs.Shape.{Firewall}
use Rattle.tree.specs.Table.{shape_of}
use Rattle.state.specs.Memory.{lent_by}
use Rattle.edits.proofs.Edits.{alter_opened}
use Rattle.edits.proofs.rules.check_alter.Goals as goal

pub returns : goal.returns
returns g c =
    let was = c.args.state.now in
    let f = c.args.firewall in
    alter_opened g.A.Kind g.R.Kind was (lent_by c.args.memory.now) c.in_ok-check_lengths.ensures f c.args.position c.args.rule
    (subst (λ n. (Firewall (shape_of was.tree) f → ⊥) ⊎ (n ≤ c.args.position) → ⊥) c.length.ensures c.in_ok-check_there.ensures)
    c.check_regions_inside.result c.check_regions_inside.ensures
