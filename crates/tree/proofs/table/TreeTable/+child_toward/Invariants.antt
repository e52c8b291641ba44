use Rattle.tree.proofs.table.TreeTable.+child_toward.Given as goal

abbrev pub decreases-child_toward : goal.decreases-child_toward
decreases-child_toward l = l.domain
