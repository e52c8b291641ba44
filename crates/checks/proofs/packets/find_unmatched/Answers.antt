use Rattle.std.proofs.Common.{sym, ◌∙◌}
use Rattle.checks.proofs.Broken.{unmatched_found}
use Rattle.checks.proofs.packets.find_unmatched.Goals as goal

pub returns : goal.returns
returns g c t rs ea er is =
    let a = g.A.Kind in
    let r = g.R.Kind in
    let whole = c.whole_packets-whole.ensures in
    rw c.packet_in.ensures
    (unmatched_found a.holds r.holds a.plain r.plain a.region r.region g.met.A.Kind.rereads g.met.R.Kind.rereads t rs _ c.whole_packets-whole.result is whole.interfaces
    (whole.parts ∙ sym (λ i. record { left = ea i; right = record { left = ea i; right = er i } })) c.find.result c.find.ensures)
