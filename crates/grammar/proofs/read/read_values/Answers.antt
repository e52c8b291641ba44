use Rattle.std.proofs.Common.{◌≡◌, [], ◌∷◌, ◌++◌, length, drop, Ok, Err, sym, ap, ◌∙◌, subst, arith}
use Rattle.std.proofs.lemmas.List.{append-nil, drop_more, drop_all, length_push}
use Rattle.std.proofs.lemmas.Result.{err_from_is_err_and, IfOk-at_ok}
use Rattle.spelling.specs.Forms.{Only}
use Rattle.tables.specs.FixedVec.{used}
use Rattle.grammar.specs.Fields.{parts_of, ReadsBehind}
use Rattle.grammar.specs.declared.value.Form.TheVariants.{Number}
use Rattle.grammar.proofs.FieldRead.{as_part}
use Rattle.grammar.proofs.FieldsRead.{after, after_both, fault_found, value_found, parts_cut, all_read}
use Rattle.grammar.proofs.read.read_values.Goals as goal

pub returns-in_err-value : goal.returns-in_err-value
returns-in_err-value c =
    let p = err_from_is_err_and c.from_residual.result c.from_residual.ensures.1 in
    let forms = c.args.forms.now in
    let place = c.loop-form.form-index in
    let whole = drop_more forms place (Number 0 0) (omega arith) in
    let found = as_part _ _ _ _ c.new.ensures.0 c.new.ensures.1 c.in_err-value.ensures in
    let only = fault_found c.in-Some.part c.cut.result.0 c.cut.ensures.here _ _ _ whole c.cut.result.1 c.cut.ensures.fields _ found in
    rw (p.1, p.2) (c.loop-form.invariant.read _ (subst (λ o. Only (ReadsBehind (drop place forms) o) (Err c.in_err-value.field-0.0)) (sym c.in-Some.is) only))

pub loop-form-preserved : goal.loop-form-preserved
loop-form-preserved c =
    let forms = c.args.forms.now in
    let place = c.loop-form.form-index in
    let whole = drop_more forms place (Number 0 0) (omega arith) in
    let found = as_part _ _ _ _ c.new.ensures.0 c.new.ensures.1 c.in_ok-value.ensures in
    let pushed = IfOk-at_ok (λ _. used c.push.new.self ≡ used c.loop-form.values ++ c.in_ok-value.value ∷ []) c.unwrap.ensures c.push.ensures.after in
    let kept = c.loop-form.invariant in
    let cut = ap length (parts_cut c.in-Some.part c.cut.result.0 c.cut.ensures.here c.cut.result.1 c.cut.ensures.fields) in
    let left = ap (λ o. length (parts_of o)) c.in-Some.is in
    let longer = ap length pushed ∙ length_push (used c.loop-form.values) c.in_ok-value.value in
    record {
      count = omega arith;
      room = omega arith;
      read = λ r only.
          let more = value_found c.in-Some.part c.cut.result.0 c.cut.ensures.here _ _ _ whole c.cut.result.1 c.cut.ensures.fields c.cut.ensures.next _ found r only in
          let all = kept.read _ (subst (λ o. Only (ReadsBehind (drop place forms) o) (after (c.in_ok-value.value ∷ []) r)) (sym c.in-Some.is) more) in
          subst (Only (ReadsBehind forms c.args.behind)) (after_both (used c.loop-form.values) (c.in_ok-value.value ∷ []) r ∙ ap (λ vs. after vs r) (sym pushed)) all;
    }

pub returns : goal.returns
returns c =
    let forms = c.args.forms.now in
    let place = c.loop-form.form-index in
    let kept = c.loop-form.invariant in
    let none : length (parts_of c.loop-form.left) ≡ 0 = omega arith in
    let all = kept.read (Ok []) (all_read (drop place forms) c.loop-form.left (drop_all place forms (omega arith)) none) in
    subst (λ vs. Only (ReadsBehind forms c.args.behind) (Ok vs)) (append-nil (used c.loop-form.values)) all
