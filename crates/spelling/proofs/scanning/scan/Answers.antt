use Rattle.std.proofs.Common.{◌≡◌, ◌+◌, ◌<◌, [], ◌∷◌, length, get_or, Ok, Err, true≢false, arith, sym, ◌∙◌, subst}
use Rattle.std.proofs.lemmas.List.{length-set, length-replicate, take_all}
use Rattle.std.proofs.lemmas.Option.{slice_get_within}
use Rattle.std.proofs.lemmas.Result.{err_from_is_err_and}
use Rattle.spelling.specs.Forms.{mark_byte, Spells}
use Rattle.spelling.specs.declared.form.Mark.TheVariants.{Dot}
use Rattle.spelling.proofs.Left.{AfterNumber, next_mark, no_mark, stored, at_start, number_read, number_fails, mark_read, mark_missing, all_read, more_than_all}
use Rattle.spelling.proofs.Once.{alone_scanned}
use Rattle.spelling.proofs.scanning.scan.Goals as goal
use Rattle.spelling.proofs.scanning.scan.Goals.{After-stands_at, Else-not-stands_at}

pub returns-in_err-number : goal.returns-in_err-number
returns-in_err-number g c =
    let p = err_from_is_err_and c.from_residual.result c.from_residual.ensures.1 in
    alone_scanned c.args.marks.now c.args.text.now c.from_residual.result (rw (p.1, p.2) (number_fails c.args.marks.now c.args.marks.now [] c.args.text.now 0 c.in_err-number.field-0.0 (at_start c.args.marks.now c.args.text.now) c.in_err-number.ensures))

pub loop-place-init : goal.loop-place-init
loop-place-init g c =
    let same : 0 + c.in_ok-number.number.length ≡ c.in_ok-number.number.length = omega arith in
    record {
      room = length-replicate g.row.N 0 ∙ sym c.told-marks;
      read = subst (AfterNumber c.args.marks.now c.args.marks.now (c.in_ok-number.number.value ∷ []) c.args.text.now) same
          (number_read c.args.marks.now c.args.marks.now [] c.args.text.now 0 c.in_ok-number.number (at_start c.args.marks.now c.args.text.now) c.in_ok-number.ensures);
    }

pub returns-then-not-stands_at : goal.returns-then-not-stands_at
returns-then-not-stands_at g c =
    let here : c.loop-place.place < length c.args.marks.now = omega arith in
    alone_scanned c.args.marks.now c.args.text.now (Err c.at.result) (rw c.at.ensures (mark_missing c.args.marks.now _ _ _ _ _ (next_mark _ _ _ _ _ here c.loop-place.invariant.read) (λ is. true≢false (sym (c.stands_at.ensures.1 is) ∙ c.if-not-stands_at.true))))

pub number_at-requires-in-loop-place : goal.number_at-requires-in-loop-place
number_at-requires-in-loop-place g c =
    let mark = get_or c.args.marks.now c.loop-place.place Dot in
    let within : c.loop-place.end < length c.args.text.now = slice_get_within c.args.text.now c.loop-place.end (mark_byte mark) (c.stands_at.ensures.0 c.if-not-stands_at.false) in
    omega arith

pub returns-in_err-number-2 : goal.returns-in_err-number-2
returns-in_err-number-2 g c =
    let here : c.loop-place.place < length c.args.marks.now = omega arith in
    let p = err_from_is_err_and c.from_residual-in_err-number-2.result c.from_residual-in_err-number-2.ensures.1 in
    alone_scanned c.args.marks.now c.args.text.now c.from_residual-in_err-number-2.result (rw (p.1, p.2) (number_fails _ _ _ _ _ c.in_err-number-2.field-0.0 (mark_read _ _ _ _ _ _ (next_mark _ _ _ _ _ here c.loop-place.invariant.read) (c.stands_at.ensures.0 c.if-not-stands_at.false)) c.in_err-number-2.ensures))

pub loop-place-preserved : goal.loop-place-preserved
loop-place-preserved g c =
    let same = c.loop-place.invariant.room in
    let here : c.loop-place.place < length c.args.marks.now = omega arith in
    let room : c.loop-place.place < length c.loop-place.later = omega arith in
    record {
      room = length-set c.loop-place.later c.loop-place.place c.in_ok-number-2.number.value ∙ same;
      read = stored _ _ _ _ c.loop-place.later _ _ c.loop-place.end c.in_ok-number-2.number.length room
          (number_read _ _ _ _ _ c.in_ok-number-2.number (mark_read _ _ _ _ _ _ (next_mark _ _ _ _ _ here c.loop-place.invariant.read) (c.stands_at.ensures.0 c.if-not-stands_at.false)) c.in_ok-number-2.ensures);
    }

pub returns-then-end-text : goal.returns-then-end-text
returns-then-end-text g c =
    alone_scanned c.args.marks.now c.args.text.now (Err c.at-then-end-text.result) (rw c.at-then-end-text.ensures (more_than_all _ _ _ _ (no_mark _ _ _ _ _ (omega arith) c.loop-place.invariant.read) c.if-end-text.true))

pub returns : goal.returns
returns g c =
    let same = c.loop-place.invariant.room in
    let all = take_all c.loop-place.place c.loop-place.later (omega arith) in
    alone_scanned c.args.marks.now c.args.text.now (Ok (record { first = c.in_ok-number.number.value; later = c.loop-place.later })) (subst (λ ns. Spells c.args.marks.now (c.in_ok-number.number.value ∷ ns) c.args.text.now) all (all_read _ _ _ _ (no_mark _ _ _ _ _ (omega arith) c.loop-place.invariant.read) (omega arith)))
