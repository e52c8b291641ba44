use Rattle.tables.specs.FixedVec.{used}
use Rattle.tree.specs.Table.{shape_of}
use Rattle.tree.proofs.Paths.{Along, hops_left}
use Rattle.tree.proofs.Tables.{sound_of}
use Rattle.tree.proofs.table.TreeTable.route.Given as goal

abbrev pub invariant-loop-hop : goal.invariant-loop-hop
invariant-loop-hop l = Along (shape_of l.self) l.from l.to (used l.hops) l.at

abbrev pub decreases-loop-hop : goal.decreases-loop-hop
decreases-loop-hop l = hops_left (shape_of l.self) (sound_of l.self) l.at l.to
