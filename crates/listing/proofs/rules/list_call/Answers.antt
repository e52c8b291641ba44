use Rattle.std.proofs.Common.{None, Some, ap, ◌∙◌, sym, length, arith}
use Rattle.std.proofs.lemmas.List.{length-map}
use Rattle.std.proofs.lemmas.Option.{slice_get_within}
use Rattle.checks.specs.Rows.{rule_entry}
use Rattle.listing.proofs.RowLines.{row_read, row_past}
use Rattle.listing.proofs.RuleLines.{no_line, last_line, inner_line}
use Rattle.listing.proofs.rules.list_call.Goals as goal

pub returns-in_err-row : goal.returns-in_err-row
returns-in_err-row g c rs e =
    c.from_residual.ensures ∙ no_line _ _ c.args.firewall rs c.args.position (row_past (rule_entry g.A.Kind.plain g.R.Kind.plain) rs c.args.list.now e c.args.position c.in_err-row.ensures)

pub returns-in_err-rule : goal.returns-in_err-rule
returns-in_err-rule g c rs e =
    c.from_residual-in_err-rule.ensures
    ∙ no_line _ _ c.args.firewall rs c.args.position (row_read (rule_entry g.A.Kind.plain g.R.Kind.plain) rs c.args.list.now e c.args.position c.in_ok-row.row c.in_ok-row.ensures None c.in_err-rule.ensures)

pub returns-then-position-list : goal.returns-then-position-list
returns-then-position-list g c rs e =
    last_line _ _ c.args.firewall rs c.args.position c.in_ok-rule.rule
    (row_read (rule_entry g.A.Kind.plain g.R.Kind.plain) rs c.args.list.now e c.args.position c.in_ok-row.row c.in_ok-row.ensures (Some c.in_ok-rule.rule) c.in_ok-rule.ensures)
    (omega (arith, ap length e, length-map rs (rule_entry g.A.Kind.plain g.R.Kind.plain), slice_get_within c.args.list.now c.args.position c.in_ok-row.row (sym c.in_ok-row.ensures)))

pub returns : goal.returns
returns g c rs e =
    inner_line _ _ c.args.firewall rs c.args.position c.in_ok-rule.rule
    (row_read (rule_entry g.A.Kind.plain g.R.Kind.plain) rs c.args.list.now e c.args.position c.in_ok-row.row c.in_ok-row.ensures (Some c.in_ok-rule.rule) c.in_ok-rule.ensures)
    (omega (arith, ap length e, length-map rs (rule_entry g.A.Kind.plain g.R.Kind.plain), slice_get_within c.args.list.now c.args.position c.in_ok-row.row (sym c.in_ok-row.ensures)))
