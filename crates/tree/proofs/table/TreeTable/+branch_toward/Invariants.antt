use Rattle.tree.proofs.table.TreeTable.+branch_toward.Given as goal

abbrev pub decreases-branch_toward : goal.decreases-branch_toward
decreases-branch_toward l = l.domain
