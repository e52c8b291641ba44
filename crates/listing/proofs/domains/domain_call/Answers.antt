use Rattle.std.proofs.Common.{None, sym, ◌∙◌}
use Rattle.tree.specs.Table.{shape_of}
use Rattle.listing.proofs.DomainLines.{domain_line, branch_line, attach_line}
use Rattle.listing.proofs.domains.domain_call.Goals as goal

pub returns-in_err-lower : goal.returns-in_err-lower
returns-in_err-lower g c = c.from_residual.ensures ∙ domain_line _ _ _ _ (shape_of c.args.tree.now) c.args.line None c.in_err-lower.ensures

pub returns-then-some_below : goal.returns-then-some_below
returns-then-some_below g c =
    rw c.from.ensures
    (branch_line _ _ _ _ (shape_of c.args.tree.now) c.args.line c.in_ok-lower.lower c.in_ok-lower.ensures (sym c.some_below.ensures ∙ c.if-some_below.true))

pub returns : goal.returns
returns g c =
    rw (c.from-2.ensures, c.from-3.ensures, c.hook-upper.ensures)
    (attach_line _ _ _ _ (shape_of c.args.tree.now) c.args.line c.in_ok-lower.lower c.in_ok-lower.ensures (sym c.some_below.ensures ∙ c.if-some_below.false))
