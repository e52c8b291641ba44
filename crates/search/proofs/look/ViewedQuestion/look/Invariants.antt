use Rattle.search.specs.Look.{MetSo}
use Rattle.search.proofs.look.ViewedQuestion.look.Given as goal

abbrev pub invariant-loop-position : goal.invariant-loop-position
invariant-loop-position g l = MetSo g.V.Region.Kind.holds (g.V.View.sights l.self.view.now) l.position l.region l.probe l.met
