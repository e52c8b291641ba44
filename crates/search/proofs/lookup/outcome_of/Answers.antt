use Rattle.std.proofs.Common.{refl}
use Rattle.std.proofs.lemmas.Bool.Decides.{not_from_Decides}
use Rattle.search.proofs.Positions.{nth_get_or, before_more, before_all}
use Rattle.search.proofs.lookup.outcome_of.Goals as goal

pub returns-then-row_has : goal.returns-then-row_has
returns-then-row_has g c =
    let entry = c.index-list-position.result in
    (entry, record { here = nth_get_or _ _ _ c.loop-position-test.true c.index-list-position.is; fit = c.if-row_has.ensures.0 refl; before = c.loop-position.invariant }, refl)

pub loop-position-preserved : goal.loop-position-preserved
loop-position-preserved g c =
    before_more _ _ _ c.index-list-position.result (nth_get_or _ _ _ c.loop-position-test.true c.index-list-position.is) c.loop-position.invariant (not_from_Decides _ c.row_has.ensures c.if-row_has.false)

pub returns : goal.returns
returns g c = before_all _ _ _ c.loop-position-test.false c.loop-position.invariant
