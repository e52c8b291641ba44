use Rattle.std.proofs.Common.{refl}
use Rattle.std.proofs.lemmas.Bool.Decides.{not_from_Decides}
use Rattle.search.proofs.Cutting.{parting, joint_next, kept_less}
use Rattle.search.proofs.cut.cut_along.Goals as goal

pub returns-then-lies_inside : goal.returns-then-lies_inside
returns-then-lies_inside g c = parting _ _ _ _ _ c.loop-along.invariant c.split_along-kept.ensures (c.if-lies_inside.ensures.0 refl)

pub loop-along-smaller : goal.loop-along-smaller
loop-along-smaller g c =
    let laws = g.met.K.Kind in
    let parts = c.split_along-kept.result in
    let values = laws.finite c.args.region in
    kept_less _ _ _ _ _ c.loop-along.invariant c.split_along-kept.ensures (laws.decided c.loop-along.joint) (laws.decided parts.0) (laws.decided parts.1) (laws.inhabited parts.1) values.0 values.1

pub loop-along-preserved : goal.loop-along-preserved
loop-along-preserved g c = joint_next _ _ _ _ _ c.loop-along.invariant c.split_along-kept.ensures (not_from_Decides _ c.lies_inside.ensures c.if-lies_inside.false)
