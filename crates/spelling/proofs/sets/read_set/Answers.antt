use Rattle.std.proofs.Common.{inl, arith}
use Rattle.std.proofs.lemmas.Result.{err_from_is_err_and}
use Rattle.spelling.proofs.Once.{alone_set}
use Rattle.spelling.proofs.Reading.{set_made}
use Rattle.spelling.proofs.sets.read_set.Goals as goal

pub returns-in_err-mask : goal.returns-in_err-mask
returns-in_err-mask c =
    let p = err_from_is_err_and c.from_residual.result c.from_residual.ensures.1 in
    alone_set c.args.text.now c.from_residual.result (rw (p.1, p.2) (inl c.in_err-mask.ensures))

pub returns : goal.returns
returns c =
    alone_set c.args.text.now c.ok_or.result (rw (c.ok_or.ensures.value, c.at.ensures) (set_made c.in_ok-mask.mask c.new.result c.args.text.now (omega arith) c.new.ensures c.in_ok-mask.ensures.0 c.in_ok-mask.ensures.1))
