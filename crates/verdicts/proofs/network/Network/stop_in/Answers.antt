use Rattle.std.proofs.Common.{subst, ◌∙◌}
use Rattle.model.specs.Tree.{rules_of}
use Rattle.lists.proofs.Laid.{laid_list}
use Rattle.verdicts.specs.Passage.{DiscardFound}
use Rattle.verdicts.proofs.network.Network.stop_in.Goals as goal

pub returns : goal.returns
returns g c t drawn =
    let f = c.args.hop.firewall in
    subst (λ k. DiscardFound g.A.Kind.holds g.R.Kind.holds (rules_of t f) k c.discarded_at.result) c.entering.ensures (c.discarded_at.ensures (rules_of t f) (c.rows_of-list.ensures ∙ laid_list drawn.lists f))
