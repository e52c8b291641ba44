use Rattle.std.proofs.Common.{arith}
use Rattle.tree.specs.Table.{shape_of}
use Rattle.tree.proofs.Paths.{way_next}
use Rattle.tree.proofs.Tables.{sound_of}
use Rattle.tree.proofs.table.TreeTable.next_hop.Goals as goal

pub returns : goal.returns
returns c = way_next (shape_of c.args.self.now) (sound_of c.args.self.now) c.args.from c.args.to c.hop_toward.result (omega arith) (omega arith) c.hop_toward.ensures
