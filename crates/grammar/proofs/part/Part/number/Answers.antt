use Rattle.std.proofs.lemmas.Result.{err_from_is_err_and}
use Rattle.grammar.proofs.NumberRead.{no_number, small_number, right_number}
use Rattle.grammar.proofs.part.Part.number.Goals as goal

pub returns-in_err-number : goal.returns-in_err-number
returns-in_err-number c = no_number c.args.least c.args.most c.args.self c.read_number.result c.read_number.ensures _ _ (err_from_is_err_and _ c.from_residual.ensures.1) c.in_err-number.ensures

pub returns-then-number-least : goal.returns-then-number-least
returns-then-number-least c = rw c.fault.ensures (small_number c.args.least c.args.most c.args.self c.read_number.result c.read_number.ensures _ c.in_ok-number.ensures c.if-number-least.true)

pub returns : goal.returns
returns c = right_number c.args.least c.args.most c.args.self c.read_number.result c.read_number.ensures _ c.in_ok-number.ensures c.if-number-least.false
