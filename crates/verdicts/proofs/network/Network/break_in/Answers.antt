use Rattle.std.proofs.Common.{length, ap, ◌∙◌, arith}
use Rattle.model.specs.Tree.{rules_of}
use Rattle.lists.proofs.Laid.{laid_list}
use Rattle.verdicts.proofs.Breaking.{list_short, hop_found}
use Rattle.verdicts.proofs.network.Network.break_in.Goals as goal

pub find_break-requires : goal.find_break-requires
find_break-requires g c =
    let is = ap length c.rows_of-list.ensures in
    let short = list_short c.args.self.now.lists.now c.args.self.now.rules.now c.args.hop.firewall in
    omega (arith, c.requires)

pub returns : goal.returns
returns g c t drawn =
    let f = c.args.hop.firewall in
    hop_found g.A.Kind.holds g.R.Kind.holds t c.args.property c.args.hop c.find_break.result (c.find_break.ensures (rules_of t f) (c.rows_of-list.ensures ∙ laid_list drawn.lists f))
