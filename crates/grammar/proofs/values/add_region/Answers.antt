use Rattle.std.proofs.Common.{arith}
use Rattle.grammar.proofs.values.add_region.Goals as goal

pub returns-clause-types : goal.returns-clause-types
returns-clause-types c = (omega arith, (omega arith, (omega arith, (omega arith, (omega arith, tt)))))
