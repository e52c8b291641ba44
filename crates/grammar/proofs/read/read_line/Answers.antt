use Rattle.std.proofs.Common.{◌≡◌, ◌∙◌, length, Ok, Err, sym, subst, ap}
use Rattle.std.proofs.lemmas.Option.{MatchOption-at_none, MatchOption-at_some}
use Rattle.std.proofs.lemmas.Result.{err_from_is_err_and}
use Rattle.tables.specs.FixedVec.{used}
use Rattle.grammar.specs.Built.{Makes}
use Rattle.grammar.specs.Lines.{forms}
use Rattle.grammar.specs.Sayable.{InForms}
use Rattle.grammar.proofs.Begun.{fields_behind, from_second, in_forms, made}
use Rattle.grammar.proofs.LineRead.{only_unclean, only_unnamed, only_uncounted, only_unread, only_said}
use Rattle.grammar.proofs.read.read_line.Goals as goal

pub returns-in_err-check_bytes : goal.returns-in_err-check_bytes
returns-in_err-check_bytes c =
    let p = err_from_is_err_and c.from_residual.result c.from_residual.ensures.1 in
    rw (p.1, p.2) (only_unclean c.args.line.now _ c.in_err-check_bytes.ensures)

pub returns-in_err-verb : goal.returns-in_err-verb
returns-in_err-verb c =
    let p = err_from_is_err_and c.from_residual-in_err-verb.result c.from_residual-in_err-verb.ensures.1 in
    let none = MatchOption-at_none _ _ c.in_err-verb.ensures.ok_part c.begin.ensures in
    let fault = rw c.in_err-verb.ensures.ok_part at c.in_err-verb.ensures.value in
    let is : c.in_err-verb.field-0.0 ≡ c.at.result = cc in
    rw (p.1, p.2, is, c.at.ensures) (only_unnamed c.args.line.now c.in_ok-check_bytes.ensures none)

pub returns-then-commas-forms : goal.returns-then-commas-forms
returns-then-commas-forms c =
    let begun = MatchOption-at_some _ _ _ c.in_ok-verb.ensures.ok_part c.begin.ensures in
    let behind = fields_behind c.args.line.now _ _ begun.0 in
    let all = ap length c.forms-forms.ensures.all in
    let wrong = c.if-commas-forms.true in
    rw c.at-then-commas-forms.ensures (only_uncounted c.args.line.now c.in_ok-check_bytes.ensures _ _ begun.0 (λ same. wrong (c.commas.ensures ∙ sym behind ∙ same ∙ sym all)))

pub read_values-requires-clause-count : goal.read_values-requires-clause-count
read_values-requires-clause-count c =
    let begun = MatchOption-at_some _ _ _ c.in_ok-verb.ensures.ok_part c.begin.ensures in
    fields_behind c.args.line.now _ _ begun.0 ∙ sym c.commas.ensures ∙ c.if-commas-forms.false

pub returns-in_err-values : goal.returns-in_err-values
returns-in_err-values c =
    let p = err_from_is_err_and c.from_residual-in_err-values.result c.from_residual-in_err-values.ensures.1 in
    let begun = MatchOption-at_some _ _ _ c.in_ok-verb.ensures.ok_part c.begin.ensures in
    let right = fields_behind c.args.line.now _ _ begun.0 ∙ sym c.commas.ensures ∙ c.if-commas-forms.false ∙ ap length c.forms-forms.ensures.all in
    let only = from_second c.forms-forms.result.now (forms c.in_ok-verb.verb) c.in_ok-verb.behind (Err c.in_err-values.field-0.0) c.forms-forms.ensures.all begun.1 c.in_err-values.ensures in
    rw (p.1, p.2) (only_unread c.args.line.now c.in_ok-check_bytes.ensures _ _ begun.0 right _ only)

pub unwrap-requires : goal.unwrap-requires
unwrap-requires c =
    let begun = MatchOption-at_some _ _ _ c.in_ok-verb.ensures.ok_part c.begin.ensures in
    let only = from_second c.forms-forms.result.now (forms c.in_ok-verb.verb) c.in_ok-verb.behind (Ok (used c.in_ok-values.values)) c.forms-forms.ensures.all begun.1 c.in_ok-values.ensures in
    made c.in_ok-verb.verb c.as_slice.result.now c.line.result c.line.ensures (subst (InForms (forms c.in_ok-verb.verb)) (sym c.as_slice.ensures) (in_forms _ _ _ only.0))

pub returns : goal.returns
returns c =
    let begun = MatchOption-at_some _ _ _ c.in_ok-verb.ensures.ok_part c.begin.ensures in
    let right = fields_behind c.args.line.now _ _ begun.0 ∙ sym c.commas.ensures ∙ c.if-commas-forms.false ∙ ap length c.forms-forms.ensures.all in
    let only = from_second c.forms-forms.result.now (forms c.in_ok-verb.verb) c.in_ok-verb.behind (Ok (used c.in_ok-values.values)) c.forms-forms.ensures.all begun.1 c.in_ok-values.ensures in
    let makes = subst (Makes c.in_ok-verb.verb c.as_slice.result.now) c.unwrap.ensures c.line.ensures in
    only_said c.args.line.now c.in_ok-check_bytes.ensures _ _ begun.0 right _ _ makes.0 (makes.1 ∙ c.as_slice.ensures) only
