use Rattle.std.proofs.Common.{arith}
use Rattle.spelling.proofs.Back.{prefix_back}
use Rattle.spelling.proofs.Short.{prefix_short}
use Rattle.spelling.proofs.write.put_prefix.Goals as goal

pub returns-clause-back : goal.returns-clause-back
returns-clause-back c = prefix_back c.args.prefix (omega arith)

pub returns-clause-short : goal.returns-clause-short
returns-clause-short c = prefix_short c.args.prefix
