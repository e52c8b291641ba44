use Rattle.tree.proofs.Tables.{lies_before, above_before}
use Rattle.tree.proofs.table.TreeTable.hop_up.Goals as goal

pub returns-clause-from : goal.returns-clause-from
returns-clause-from c = rw c.as_slice.ensures (lies_before c.args.self.now c.args.domain c.requires.some c.requires.domain)

pub returns-clause-onto : goal.returns-clause-onto
returns-clause-onto c = rw (c.as_slice.ensures, c.as_slice-2.ensures) (above_before c.args.self.now c.args.domain c.requires.some c.requires.domain)
