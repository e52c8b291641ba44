use Rattle.model.specs.Record.{Stops}
use Rattle.tree.specs.Table.{shape_of}
use Rattle.tree.proofs.Paths.{left_less, passed_start, passed_next, passed_found, passed_end}
use Rattle.tree.proofs.Tables.{sound_of}
use Rattle.verdicts.proofs.Sending.{sent_stopped, sent_passed}
use Rattle.verdicts.proofs.network.Network.first_stop.Goals as goal

pub loop-hop-init : goal.loop-hop-init
loop-hop-init g c t drawn =
    let table = c.args.self.now.tree.now in
    passed_start (shape_of table) (sound_of table) c.domain_of-at.result c.domain_of-to.result (Stops g.A.Kind.holds g.R.Kind.holds t c.args.header)

pub returns-in-Some-stop_in : goal.returns-in-Some-stop_in
returns-in-Some-stop_in g c t drawn is there =
    let table = c.args.self.now.tree.now in
    let u = c.domain_of-at.result in
    let v = c.domain_of-to.result in
    let h = c.in-Some.hop in
    let k = c.in-Some-stop_in.position in
    let decided = c.in-Some-stop_in.ensures t drawn in
    let found = passed_found (shape_of table) (sound_of table) u v (Stops g.A.Kind.holds g.R.Kind.holds t c.args.header) c.loop-hop.at (c.loop-hop.invariant t drawn) h c.in-Some.ensures (k, decided) in
    sent_stopped g.A.Kind.holds g.R.Kind.holds t c.args.header u v (c.domain_of-at.ensures t is) (c.domain_of-to.ensures t is) (shape_of table) drawn.shape h k decided found

pub loop-hop-smaller : goal.loop-hop-smaller
loop-hop-smaller g c =
    let table = c.args.self.now.tree.now in
    left_less (shape_of table) (sound_of table) c.loop-hop.at c.domain_of-to.result c.in-Some.hop c.in-Some.ensures

pub loop-hop-preserved : goal.loop-hop-preserved
loop-hop-preserved g c t drawn =
    let table = c.args.self.now.tree.now in
    passed_next (shape_of table) (sound_of table) c.domain_of-at.result c.domain_of-to.result (Stops g.A.Kind.holds g.R.Kind.holds t c.args.header) c.loop-hop.at (c.loop-hop.invariant t drawn) c.in-Some.hop c.in-Some.ensures (c.in_default-stop_in.ensures t drawn)

pub returns : goal.returns
returns g c t drawn is there =
    let table = c.args.self.now.tree.now in
    let u = c.domain_of-at.result in
    let v = c.domain_of-to.result in
    let none = passed_end (shape_of table) (sound_of table) u v (Stops g.A.Kind.holds g.R.Kind.holds t c.args.header) c.loop-hop.at (c.loop-hop.invariant t drawn) c.in_default.ensures in
    sent_passed g.A.Kind.holds g.R.Kind.holds t c.args.header u v (c.domain_of-at.ensures t is) (c.domain_of-to.ensures t is) (shape_of table) drawn.shape (sound_of table) there none
