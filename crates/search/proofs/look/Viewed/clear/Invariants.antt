use Rattle.kinds.specs.Words.{Inside}
use Rattle.search.specs.Look.{Clear}
use Rattle.search.proofs.look.Viewed.clear.Given as goal

abbrev pub invariant-loop-position : goal.invariant-loop-position
invariant-loop-position g l =
    let holds = g.V.Region.Kind.holds in
    Inside (holds l.region) (holds l.cleared) × Inside (holds l.cleared) (holds l.fn.wide) × Clear holds (g.V.View.sights l.self.view.now) l.position (holds l.cleared)
