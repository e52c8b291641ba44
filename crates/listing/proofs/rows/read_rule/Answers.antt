use Rattle.std.proofs.Common.{Some, ap, ap₂}
use Rattle.std.proofs.lemmas.Option.{same_Some}
use Rattle.kinds.proofs.Provided.{none_some}
use Rattle.kinds.specs.declared.pair.Pair.{Pair}
use Rattle.kinds.specs.declared.set.Set.{Set}
use Rattle.model.specs.declared.rules.Decision.{Decision}
use Rattle.model.specs.declared.rules.Rule.{Rule}
use Rattle.listing.proofs.rows.read_rule.Goals as goal

-- the region of a rule's packets, and the rule for these packets
abbrev packets_of : {A R : Type 0} → Rule A R → Pair Set (Pair A (Pair A R))
packets_of r = record { left = r.interfaces; right = record { left = r.source; right = record { left = r.destination; right = r.rest } } }

abbrev rule_with : {A R : Type 0} → Pair Set (Pair A (Pair A R)) → Decision → Rule A R
rule_with p w = record { interfaces = p.left; source = p.right.left; destination = p.right.right.left; rest = p.right.right.right; decision = w }

pub returns-in_err-packets : goal.returns-in_err-packets
returns-in_err-packets g c r e = none_some (c.in_err-packets.ensures (packets_of r) (ap (λ x. x.row) e))

pub returns : goal.returns
returns g c r e =
    let packets = c.in_ok-packets.ensures (packets_of r) (ap (λ x. x.row) e) in
    let decision = c.in_ok-decision.ensures r.decision (ap (λ x. x.outcome) e) in
    ap₂ (λ p w. Some (rule_with p w)) (same_Some _ _ packets) (same_Some _ _ decision)
