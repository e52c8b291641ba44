use Rattle.std.proofs.Common.{arith, ◌∙◌}
use Rattle.spelling.proofs.Decimal.{value_bound, one_more}
use Rattle.spelling.proofs.number.leading_number.Goals as goal

pub overflow_mul-value : goal.overflow_mul-value
overflow_mul-value c =
    let bound = value_bound c.args.text.now c.loop-byte.byte-index c.loop-byte.value (omega arith) c.loop-byte.invariant.value c.loop-byte.invariant.digits in
    omega arith

pub overflow_add-value : goal.overflow_add-value
overflow_add-value c =
    let bound = value_bound c.args.text.now c.loop-byte.byte-index c.loop-byte.value (omega arith) c.loop-byte.invariant.value c.loop-byte.invariant.digits in
    let digit = c.in-Some.ensures.value in
    omega (arith, digit.0, digit.1)

pub loop-byte-preserved : goal.loop-byte-preserved
loop-byte-preserved c =
    let digit = c.in-Some.ensures.value in
    let more = one_more 10 c.args.text.now c.loop-byte.byte-index c.loop-byte.value c.from-in-loop-byte.result c.from.result (omega arith) c.loop-byte.invariant.digits c.loop-byte.invariant.value c.from.ensures digit.0 (c.from-in-loop-byte.ensures ∙ digit.1) in
    record { counted = omega arith; short = omega arith; digits = more.0; value = more.1 }
