use Rattle.std.proofs.Common.{◌∷◌, inl}
use Rattle.std.proofs.lemmas.Result.{err_from_is_err_and}
use Rattle.spelling.specs.Meanings.{AddressOf}
use Rattle.spelling.specs.declared.form.TheConstants.{ADDRESS}
use Rattle.spelling.proofs.Meant.{address_once}
use Rattle.spelling.proofs.Once.{alone}
use Rattle.spelling.proofs.Reading.{value_read}
use Rattle.spelling.proofs.read.read_address.Goals as goal

pub returns-in_err-scan : goal.returns-in_err-scan
returns-in_err-scan c =
    let p = err_from_is_err_and c.from_residual.result c.from_residual.ensures.1 in
    alone ADDRESS AddressOf address_once c.args.text.now c.from_residual.result (rw (p.1, p.2) (inl c.in_err-scan.ensures.0))

pub returns : goal.returns
returns c =
    let numbers = c.in_ok-scan.field-0 in
    alone ADDRESS AddressOf address_once c.args.text.now c.at.result (rw c.at.ensures (value_read ADDRESS AddressOf c.args.text.now (numbers.first ∷ numbers.later) c.address.result c.in_ok-scan.ensures.0 c.address.ensures))
