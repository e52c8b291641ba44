use Rattle.std.proofs.Common.{arith, refl, ◌∙◌, subst}
use Rattle.std.proofs.lemmas.List.{take_all}
use Rattle.spelling.proofs.Hex.{AllHex, hex_digit, no_digit, too_few, mask_bound, one_hex_more}
use Rattle.spelling.proofs.sets.scan_mask.Goals as goal

pub returns-in_default : goal.returns-in_default
returns-in_default c =
    rw c.at-in_default.ensures (no_digit c.args.text.now c.loop-place.place c.loop-place.invariant.short c.loop-place-test.true c.loop-place.invariant.digits c.in_default.ensures, refl)

pub overflow_mul-mask : goal.overflow_mul-mask
overflow_mul-mask c =
    let bound = mask_bound c.args.text.now c.loop-place.place c.loop-place.mask (omega arith) c.loop-place.invariant.mask c.loop-place.invariant.digits in
    omega arith

pub overflow_add-mask : goal.overflow_add-mask
overflow_add-mask c =
    let bound = mask_bound c.args.text.now c.loop-place.place c.loop-place.mask (omega arith) c.loop-place.invariant.mask c.loop-place.invariant.digits in
    let digit = c.in-Some.ensures in
    let low = hex_digit _ digit.0 in
    omega (arith, digit.1)

pub loop-place-preserved : goal.loop-place-preserved
loop-place-preserved c =
    let digit = c.in-Some.ensures in
    let more = one_hex_more c.args.text.now c.loop-place.place c.loop-place.mask c.from.result _ (omega arith) c.loop-place.invariant.digits c.loop-place.invariant.mask refl digit.0 (c.from.ensures ∙ digit.1) in
    record { short = omega arith; digits = more.0; mask = more.1 }

pub returns-then-text-lt-MASK_DIGITS : goal.returns-then-text-lt-MASK_DIGITS
returns-then-text-lt-MASK_DIGITS c =
    let whole = take_all c.loop-place.place c.args.text.now (omega arith) in
    rw c.at-then-text-lt-MASK_DIGITS.ensures (too_few c.args.text.now (omega arith) (subst AllHex whole c.loop-place.invariant.digits), refl)
