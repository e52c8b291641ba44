use Rattle.std.proofs.Common.{◌<◌, length, arith}
use Rattle.std.proofs.lemmas.Result.{err_from_is_err_and}
use Rattle.spelling.proofs.Writing.{put_next, put_stops}
use Rattle.grammar.proofs.Phrases.{comma_put, longest_next}
use Rattle.grammar.proofs.write.put_phrase.Goals as goal

pub returns-in_err-end-3-clause-written : goal.returns-in_err-end-3-clause-written
returns-in_err-end-3-clause-written c =
    let p = err_from_is_err_and c.from_residual-in_err-end-3.result c.from_residual-in_err-end-3.ensures.1 in
    let here : c.loop-value.value-index < length c.args.values.now = omega arith in
    let marked = comma_put _ _ c.value-item.result here c.value-item.is _ _ _ _ _ _ _ c.loop-value.invariant.going c.in_ok-end-2.ensures in
    rw p.1 (put_stops _ _ _ _ _ _ _ marked _ c.in_err-end-3.ensures.written)

pub loop-value-preserved : goal.loop-value-preserved
loop-value-preserved c =
    let here : c.loop-value.value-index < length c.args.values.now = omega arith in
    let marked = comma_put _ _ c.value-item.result here c.value-item.is _ _ _ _ _ _ _ c.loop-value.invariant.going c.in_ok-end-2.ensures in
    let less = longest_next _ _ c.value-item.result here c.value-item.is in
    record { going = put_next _ _ _ _ _ _ _ marked _ _ c.in_ok-end-3.ensures.written; short = omega (arith, less, c.in_ok-end-2.ensures.end_is, c.in_ok-end-3.ensures.written.end_is, c.in_ok-end-3.ensures.short) }
