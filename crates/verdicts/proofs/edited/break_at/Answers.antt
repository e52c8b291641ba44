use Rattle.std.proofs.Common.{subst, Some, None}
use Rattle.model.specs.Shape.{Sound}
use Rattle.tree.specs.Path.{HopThroughOf}
use Rattle.tree.proofs.Tables.{sound_of}
use Rattle.verdicts.proofs.Edits.{off_route, found_here}
use Rattle.verdicts.proofs.edited.break_at.Goals as goal

pub returns-in_err-hop : goal.returns-in_err-hop
returns-in_err-hop g c t rs same less is kept =
    let p = c.args.property in
    let none = subst (λ s. HopThroughOf s p.from p.to c.args.firewall None) same c.in_err-hop.ensures in
    rw c.from_residual.ensures (off_route g.A.Kind.holds g.R.Kind.holds t c.args.firewall rs p (subst Sound same (sound_of c.args.tree.now)) kept none)

pub returns : goal.returns
returns g c t rs same less is kept =
    let p = c.args.property in
    let h = c.in_ok-hop.hop in
    let (hs, k, route, at) = subst (λ s. HopThroughOf s p.from p.to c.args.firewall (Some h)) same c.in_ok-hop.ensures in
    found_here g.A.Kind.holds g.R.Kind.holds t c.args.firewall rs p (subst Sound same (sound_of c.args.tree.now)) kept less h hs k route at c.find_break.result (c.find_break.ensures rs is)
