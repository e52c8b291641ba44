use Rattle.std.proofs.Common.{arith}
use Rattle.spelling.proofs.Back.{range_back}
use Rattle.spelling.proofs.Short.{range_short}
use Rattle.spelling.proofs.write.put_range.Goals as goal

pub returns-clause-back : goal.returns-clause-back
returns-clause-back c = range_back c.args.range (omega arith)

pub returns-clause-short : goal.returns-clause-short
returns-clause-short c = range_short c.args.range (omega arith)
