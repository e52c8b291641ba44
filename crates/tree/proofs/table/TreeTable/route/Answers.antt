use Rattle.std.proofs.Common.{arith}
use Rattle.tables.specs.FixedVec.{used}
use Rattle.tree.specs.Table.{shape_of}
use Rattle.model.proofs.Lengths.{route_short}
use Rattle.tree.proofs.Paths.{left_less, along_start, along_room, along_next, along_end}
use Rattle.tree.proofs.Tables.{sound_of}
use Rattle.tree.proofs.table.TreeTable.route.Goals as goal

pub loop-hop-init : goal.loop-hop-init
loop-hop-init c = rw c.new-hops.ensures (along_start (shape_of c.args.self.now) (sound_of c.args.self.now) c.args.from c.args.to)

pub unwrap-requires : goal.unwrap-requires
unwrap-requires c =
    let room = along_room (shape_of c.args.self.now) (sound_of c.args.self.now) c.args.from c.args.to (used c.loop-hop.hops) c.loop-hop.at c.loop-hop.invariant c.in-Some.hop c.in-Some.ensures in
    let counted = c.args.self.now.firewalls.counted in
    let few = c.args.self.now.firewalls.few in
    c.push.ensures.room.1 (omega arith)

pub loop-hop-smaller : goal.loop-hop-smaller
loop-hop-smaller c = left_less (shape_of c.args.self.now) (sound_of c.args.self.now) c.loop-hop.at c.args.to c.in-Some.hop c.in-Some.ensures

pub loop-hop-preserved : goal.loop-hop-preserved
loop-hop-preserved c =
    let after = rw c.unwrap.ensures at c.push.ensures.after in
    rw after (along_next (shape_of c.args.self.now) (sound_of c.args.self.now) c.args.from c.args.to (used c.loop-hop.hops) c.loop-hop.at c.loop-hop.invariant c.in-Some.hop c.in-Some.ensures)

pub returns-clause-route : goal.returns-clause-route
returns-clause-route c =
    along_end (shape_of c.args.self.now) (sound_of c.args.self.now) c.args.from c.args.to (used c.loop-hop.hops) c.loop-hop.at c.loop-hop.invariant c.in_default.ensures (omega arith) (omega arith)

pub returns-clause-short : goal.returns-clause-short
returns-clause-short c =
    let route = along_end (shape_of c.args.self.now) (sound_of c.args.self.now) c.args.from c.args.to (used c.loop-hop.hops) c.loop-hop.at c.loop-hop.invariant c.in_default.ensures (omega arith) (omega arith) in
    route_short (shape_of c.args.self.now) (sound_of c.args.self.now) c.args.from c.args.to (used c.loop-hop.hops) route
