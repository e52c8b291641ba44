use Rattle.std.proofs.Common.{◌≤◌, ◌⊎◌, subst}
use Rattle.model.specs.Shape.{Firewall}
use Rattle.model.specs.declared.answers.Refusal.TheVariants.{NoSuch}
use Rattle.tree.specs.Table.{shape_of}
use Rattle.state.specs.Order.{Refuses}
use Rattle.state.specs.Memory.{lent_by}
use Rattle.edits.proofs.Edits.{lift_opened}
use Rattle.edits.proofs.rules.check_lift.Goals as goal

pub returns : goal.returns
returns g c =
    let was = c.args.state.now in
    let f = c.args.firewall in
    lift_opened g.A.Kind g.R.Kind was (lent_by c.args.memory.now) c.in_ok-check_lengths.ensures f c.args.position c.check_there.result
    (subst (λ n. Refuses c.check_there.result NoSuch ((Firewall (shape_of was.tree) f → ⊥) ⊎ (n ≤ c.args.position))) c.length.ensures c.check_there.ensures)
