use Rattle.std.proofs.Common.{◌∙◌}
use Rattle.lists.specs.Layout.{list_at}
use Rattle.lists.proofs.Laid.{laid_list}
use Rattle.listing.proofs.RuleLines.{laid_line}
use Rattle.listing.proofs.rules.rule_call.Goals as goal

pub returns : goal.returns
returns g c ls laid =
    let f = c.in_ok-firewall.firewall in
    let place = c.in_ok-firewall.ensures in
    c.list_call.ensures (list_at ls f) (c.rows_of.ensures ∙ laid_list laid f) ∙ laid_line _ _ laid f c.in_ok-firewall.position c.args.line place.0 place.1 place.2
