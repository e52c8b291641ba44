use Rattle.tree.specs.Table.{shape_of}
use Rattle.tree.proofs.Climbs.{row_in, not_zero}
use Rattle.tree.proofs.Tables.{sound_of}
use Rattle.tree.proofs.table.TreeTable.hop_toward.Goals as goal

pub hop_up-up-requires-clause-some : goal.hop_up-up-requires-clause-some
hop_up-up-requires-clause-some c = not_zero (shape_of c.args.self.now) (sound_of c.args.self.now) c.args.from c.args.to c.requires.there c.requires.apart c.in_default.ensures

pub hop_up-requires-clause-domain : goal.hop_up-requires-clause-domain
hop_up-requires-clause-domain c = let (i, l, r) = c.in-Some-branch_toward.ensures in (row_in (shape_of c.args.self.now) c.in-Some-branch_toward.branch _ i l).1
