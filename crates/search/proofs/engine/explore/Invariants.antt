use Rattle.std.proofs.Common.{◌≡◌, ◌≤◌, length}
use Rattle.search.proofs.Measure.{measure}
use Rattle.search.proofs.Stack.{Held}
use Rattle.search.proofs.engine.explore.Given as goal

abbrev pub invariant-loop-focus : goal.invariant-loop-focus
invariant-loop-focus g l =
    let k = g.Q.Region.Kind in
    Held k.holds k.region (g.Q.Question.wished l.question) (g.Q.Question.entries l.question) l.fn.target l.frames l.depth l.focus × (length l.frames ≡ length l.initial.frames) × (l.depth ≤ length l.frames)

abbrev pub decreases-loop-focus : goal.decreases-loop-focus
decreases-loop-focus g l =
    let k = g.Q.Region.Kind in
    let laws = g.met.Q.Region.Kind in
    measure k.holds k.region laws.decided (laws.finite l.fn.target).0 (length l.initial.frames) l.frames l.depth l.focus
