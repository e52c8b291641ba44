use Rattle.model.specs.Properties.{BrokenIn}
use Rattle.tree.specs.Table.{shape_of}
use Rattle.tree.proofs.Paths.{left_less, passed_start, passed_next, passed_found, passed_end}
use Rattle.tree.proofs.Tables.{sound_of}
use Rattle.verdicts.proofs.Breaking.{broken_first, nowhere_kept}
use Rattle.verdicts.proofs.network.Network.first_break.Goals as goal

pub loop-hop-init : goal.loop-hop-init
loop-hop-init g c t drawn =
    let p = c.args.property in
    let table = c.args.self.now.tree.now in
    passed_start (shape_of table) (sound_of table) p.from p.to (BrokenIn g.A.Kind.holds g.R.Kind.holds t p)

pub returns-in-Some-break_in : goal.returns-in-Some-break_in
returns-in-Some-break_in g c t drawn =
    let p = c.args.property in
    let table = c.args.self.now.tree.now in
    let h = c.in-Some.hop in
    let k = c.in-Some-break_in.packet in
    let breaks = c.in-Some-break_in.ensures t drawn in
    let found = passed_found (shape_of table) (sound_of table) p.from p.to (BrokenIn g.A.Kind.holds g.R.Kind.holds t p) c.loop-hop.at (c.loop-hop.invariant t drawn) h c.in-Some.ensures (k, breaks) in
    broken_first g.A.Kind.holds g.R.Kind.holds t p (shape_of table) drawn.shape h k breaks found

pub loop-hop-smaller : goal.loop-hop-smaller
loop-hop-smaller g c =
    let table = c.args.self.now.tree.now in
    left_less (shape_of table) (sound_of table) c.loop-hop.at c.args.property.to c.in-Some.hop c.in-Some.ensures

pub loop-hop-preserved : goal.loop-hop-preserved
loop-hop-preserved g c t drawn =
    let p = c.args.property in
    let table = c.args.self.now.tree.now in
    passed_next (shape_of table) (sound_of table) p.from p.to (BrokenIn g.A.Kind.holds g.R.Kind.holds t p) c.loop-hop.at (c.loop-hop.invariant t drawn) c.in-Some.hop c.in-Some.ensures (c.in_default-break_in.ensures t drawn)

pub returns : goal.returns
returns g c t drawn =
    let p = c.args.property in
    let table = c.args.self.now.tree.now in
    let none = passed_end (shape_of table) (sound_of table) p.from p.to (BrokenIn g.A.Kind.holds g.R.Kind.holds t p) c.loop-hop.at (c.loop-hop.invariant t drawn) c.in_default.ensures in
    nowhere_kept g.A.Kind.holds g.R.Kind.holds t p (shape_of table) drawn.shape none
