use Rattle.std.proofs.Common.{arith}
use Rattle.spelling.proofs.Back.{address_back}
use Rattle.spelling.proofs.Short.{address_short}
use Rattle.spelling.proofs.write.put_address.Goals as goal

pub returns-clause-back : goal.returns-clause-back
returns-clause-back c = address_back c.args.address (omega arith)

pub returns-clause-short : goal.returns-clause-short
returns-clause-short c = address_short c.args.address
