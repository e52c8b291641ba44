use Rattle.std.proofs.Common.{refl, ap, ◌∙◌}
use Rattle.kinds.specs.Masks.{low_bit}
use Rattle.model.specs.Packets.{decision_number}
use Rattle.checks.proofs.Broken.{called_found}
use Rattle.checks.proofs.packets.find_break.Goals as goal

pub returns : goal.returns
returns g c rs is =
    let a = g.A.Kind in
    let r = g.R.Kind in
    let one = c.in_ok-interface.interface in
    let only = c.in_ok-interface.ensures in
    rw c.packet_in.ensures
    (called_found a.holds r.holds a.plain r.plain a.region r.region g.met.A.Kind.rereads g.met.R.Kind.rereads rs c.args.property c.args.entered one (low_bit one.mask c.args.entered one.few (only.1 _ refl)) only _ _ _ is
    (c.into.ensures ∙ ap decision_number c.against.ensures) c.packet_region-target.ensures c.find.result c.find.ensures)
