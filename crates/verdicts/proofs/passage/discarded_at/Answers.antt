use Rattle.std.proofs.Common.{sym, ◌∙◌}
use Rattle.verdicts.proofs.Sending.{discards, discards_not, unmatched_not}
use Rattle.verdicts.proofs.passage.discarded_at.Goals as goal

pub returns-in_err-decided : goal.returns-in_err-decided
returns-in_err-decided g c rs is =
    let a = g.A.Kind in
    let r = g.R.Kind in
    rw c.from_residual.ensures (unmatched_not a.holds r.holds a.plain r.plain a.region r.region g.met.A.Kind.rereads g.met.R.Kind.rereads rs c.args.packet c.args.list.now is c.into.result c.into.ensures c.in_err-decided.ensures)

pub returns-then-decided-from : goal.returns-then-decided-from
returns-then-decided-from g c rs is =
    let a = g.A.Kind in
    let r = g.R.Kind in
    discards a.holds r.holds a.plain r.plain a.region r.region g.met.A.Kind.rereads g.met.R.Kind.rereads rs c.args.packet c.args.list.now is c.into.result c.into.ensures c.in_ok-decided.decided c.in_ok-decided.ensures (c.if-decided-from.true ∙ c.from.ensures)

pub returns-else-decided-from : goal.returns-else-decided-from
returns-else-decided-from g c rs is =
    let a = g.A.Kind in
    let r = g.R.Kind in
    discards_not a.holds r.holds a.plain r.plain a.region r.region g.met.A.Kind.rereads g.met.R.Kind.rereads rs c.args.packet c.args.list.now is c.into.result c.into.ensures c.in_ok-decided.decided c.in_ok-decided.ensures (λ same. c.if-decided-from.false (same ∙ sym c.from.ensures))
