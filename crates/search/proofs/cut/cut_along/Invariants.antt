use Rattle.search.proofs.Cutting.{Joint}
use Rattle.search.proofs.Sizes.{size}
use Rattle.search.proofs.cut.cut_along.Given as goal

abbrev pub invariant-loop-along : goal.invariant-loop-along
invariant-loop-along g l = Joint (g.K.Kind.holds l.fn.region) (g.K.Kind.holds l.along) (g.K.Kind.holds l.joint)

abbrev pub decreases-loop-along : goal.decreases-loop-along
decreases-loop-along g l = size (g.K.Kind.holds l.joint) (g.met.K.Kind.decided l.joint) (g.met.K.Kind.finite l.fn.region).0
