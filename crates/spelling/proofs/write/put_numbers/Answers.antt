use Rattle.std.proofs.Common.{◌<◌, length, arith}
use Rattle.std.proofs.lemmas.Result.{err_from_is_err_and}
use Rattle.spelling.proofs.Writing.{mark_put, put_next, put_stops}
use Rattle.spelling.proofs.write.put_numbers.Goals as goal
use Rattle.spelling.proofs.write.put_numbers.Goals.{In_ok-end-2}

pub returns-in_err-end-3 : goal.returns-in_err-end-3
returns-in_err-end-3 g c =
    let p = err_from_is_err_and c.from_residual-in_err-end-3.result c.from_residual-in_err-end-3.ensures.1 in
    let n = c.args.numbers.now in
    let here : c.loop-place.place < length c.args.marks.now = omega arith in
    let there : c.loop-place.place < length n.later = omega arith in
    let marked = mark_put _ _ _ _ _ c.args.marks.now n.later c.loop-place.place _ _ _ here there c.loop-place.invariant c.byte.ensures c.in_ok-end-2.ensures in
    rw p.1 (put_stops _ _ _ _ _ _ _ marked _ c.in_err-end-3.ensures)

pub loop-place-preserved : goal.loop-place-preserved
loop-place-preserved g c =
    let n = c.args.numbers.now in
    let here : c.loop-place.place < length c.args.marks.now = omega arith in
    let there : c.loop-place.place < length n.later = omega arith in
    let marked = mark_put _ _ _ _ _ c.args.marks.now n.later c.loop-place.place _ _ _ here there c.loop-place.invariant c.byte.ensures c.in_ok-end-2.ensures in
    put_next _ _ _ _ _ _ _ marked _ _ c.in_ok-end-3.ensures
