use Rattle.grammar.proofs.Back.{line_back, line_short}
use Rattle.grammar.proofs.Bounds.{sayable_in_bounds}
use Rattle.grammar.proofs.write.put_line.Goals as goal

pub returns-clause-short : goal.returns-clause-short
returns-clause-short c = line_short c.args.line.now c.values.ensures.types

pub returns-clause-back : goal.returns-clause-back
returns-clause-back c = line_back c.args.line.now c.values.ensures.types

pub returns-clause-sayable : goal.returns-clause-sayable
returns-clause-sayable c = sayable_in_bounds c.args.line.now
