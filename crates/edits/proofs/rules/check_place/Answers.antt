use Rattle.std.proofs.Common.{◌+◌, ◌≤◌, ◌⊎◌, subst}
use Rattle.std.proofs.lemmas.Result.{err_from_is_err_and}
use Rattle.model.specs.Shape.{Firewall}
use Rattle.tree.specs.Table.{shape_of}
use Rattle.state.specs.Memory.{lent_by}
use Rattle.edits.specs.Edits.{There, Room, list_length}
use Rattle.edits.proofs.Edits.{place_crowded, place_opened}
use Rattle.edits.proofs.rules.check_place.Goals as goal

pub returns-in_err-check_list_room : goal.returns-in_err-check_list_room
returns-in_err-check_list_room g c =
    let p = err_from_is_err_and c.from_residual-in_err-check_list_room.result c.from_residual-in_err-check_list_room.ensures.1 in
    let was = c.args.state.now in
    let f = c.args.firewall in
    let (is, why) = c.in_err-check_list_room.ensures in
    rw (p.1, p.2)
    (place_crowded g.A.Kind g.R.Kind was (lent_by c.args.memory.now) c.in_ok-check_lengths.ensures f c.args.position c.args.rule
    (There was (lent_by c.args.memory.now) f (list_length was f + 1) c.args.position × Room was f) _
    (subst (λ n. (Firewall (shape_of was.tree) f → ⊥) ⊎ (n + 1 ≤ c.args.position) → ⊥) c.length.ensures c.in_ok-check_there.ensures) is why)

pub returns : goal.returns
returns g c =
    let was = c.args.state.now in
    let f = c.args.firewall in
    place_opened g.A.Kind g.R.Kind was (lent_by c.args.memory.now) c.in_ok-check_lengths.ensures f c.args.position c.args.rule
    (subst (λ n. (Firewall (shape_of was.tree) f → ⊥) ⊎ (n + 1 ≤ c.args.position) → ⊥) c.length.ensures c.in_ok-check_there.ensures) c.in_ok-check_list_room.ensures
    c.check_regions_inside.result c.check_regions_inside.ensures
