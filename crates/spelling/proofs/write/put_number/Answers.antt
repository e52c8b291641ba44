use Rattle.std.proofs.Common.{arith}
use Rattle.spelling.proofs.Back.{number_back}
use Rattle.spelling.proofs.Short.{number_short}
use Rattle.spelling.proofs.write.put_number.Goals as goal

pub returns-clause-back : goal.returns-clause-back
returns-clause-back c = number_back c.args.number

pub returns-clause-short : goal.returns-clause-short
returns-clause-short c = number_short c.args.number (omega arith)
