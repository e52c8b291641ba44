use Rattle.std.proofs.Common.{◌∷◌, arith, inl, refl}
use Rattle.std.proofs.lemmas.Result.{err_from_is_err_and}
use Rattle.spelling.proofs.Reading.{first_three, prefix_made}
use Rattle.spelling.proofs.values.prefix.Goals as goal

pub returns-in_err-address : goal.returns-in_err-address
returns-in_err-address c =
    let p = err_from_is_err_and c.from_residual.result c.from_residual.ensures.1 in
    let wrong = c.in_err-address.ensures in
    rw (p.1, p.2, first_three c.args.numbers.later (omega arith)) (inl (wrong.0, λ right. wrong.1 right.0))

pub returns-in_err-length : goal.returns-in_err-length
returns-in_err-length c =
    let p = err_from_is_err_and c.from_residual-in_err-length.result c.from_residual-in_err-length.ensures.1 in
    let wrong = c.in_err-length.ensures in
    rw (p.1, p.2) (rw wrong.0 (inl (refl, λ right. let fits = right.1 in omega (arith, wrong.1))))

pub returns : goal.returns
returns c =
    let numbers = c.args.numbers in
    let three = first_three numbers.later (omega arith) in
    let length = c.in_ok-length.ensures in
    rw c.ok_or.ensures.value (prefix_made c.in_ok-address.address _ c.new.result (numbers.first ∷ numbers.later) c.new.ensures (rw three c.in_ok-address.ensures) length.0 (omega (arith, length.0, length.1)))
