use Rattle.examples.proofs.Table.{examples}
use Rattle.examples.proofs.statement.examples_hold.Goals as goal

pub returns : goal.returns
returns c = examples
