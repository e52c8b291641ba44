use Rattle.model.specs.Record.{Stops}
use Rattle.model.specs.Tree.{Tree}
use Rattle.tree.specs.Table.{shape_of}
use Rattle.tree.proofs.Paths.{Passed, hops_left}
use Rattle.tree.proofs.Tables.{sound_of}
use Rattle.verdicts.specs.Network.{Draws}
use Rattle.verdicts.proofs.network.Network.first_stop.Given as goal

-- no firewall so far discards the header
abbrev pub invariant-loop-hop : goal.invariant-loop-hop
invariant-loop-hop g l =
    (t : Tree g.row.A.Denot g.row.R.Denot) → Draws g.A.Kind.plain g.R.Kind.plain l.self t
    → Passed (shape_of l.self.tree.now) l.initial.at l.to (Stops g.A.Kind.holds g.R.Kind.holds t l.header) l.at

abbrev pub decreases-loop-hop : goal.decreases-loop-hop
decreases-loop-hop g l = hops_left (shape_of l.self.tree.now) (sound_of l.self.tree.now) l.at l.to
