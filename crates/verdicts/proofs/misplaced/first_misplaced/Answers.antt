use Rattle.std.proofs.Common.{sym, ◌∙◌, subst}
use Rattle.search.proofs.Positions.{nth_get_or}
use Rattle.model.specs.Refusals.{SomeAstray}
use Rattle.checks.proofs.PropertyRows.{past_nothing, past_property, first_property, no_property}
use Rattle.verdicts.specs.Misplaced.{AstrayIn}
use Rattle.verdicts.proofs.misplaced.first_misplaced.Goals as goal
use Rattle.verdicts.proofs.misplaced.first_misplaced.Goals.{in-Some+in_default-astray_in, in_default}

pub returns-in-Some-astray_in : goal.returns-in-Some-astray_in
returns-in-Some-astray_in g c t blocks are =
    let a = g.A.Kind in
    let r = g.R.Kind in
    let astray = subst (AstrayIn a.holds r.holds t c.in-Some.property) c.in-Some-astray_in.is (c.astray_in.ensures t blocks) in (
      c.in-Some.property,
      first_property a.plain r.plain a.region r.region g.met.A.Kind.rereads g.met.R.Kind.rereads (SomeAstray a.holds r.holds t) c.args.properties.now t.properties are
          c.loop-index.index c.index-properties-index.result c.in-Some.property (nth_get_or _ _ _ c.loop-index-test.true c.index-properties-index.is) (sym c.read_property.ensures ∙ c.in-Some.is) (c.loop-index.invariant t blocks are) (c.in-Some-astray_in.address, astray),
      astray,
    )

pub loop-index-preserved : goal.loop-index-preserved
loop-index-preserved g c t blocks are =
    let a = g.A.Kind in
    let r = g.R.Kind in
    let here = nth_get_or c.args.properties.now c.loop-index.index c.index-properties-index.result c.loop-index-test.true c.index-properties-index.is in
    elim c.match-read_property.branch [
      | in-Some+in_default-astray_in w ↦
          let none = subst (AstrayIn a.holds r.holds t w.in-Some.property) w.in_default-astray_in.is (w.astray_in.ensures t blocks) in
          past_property a.plain r.plain a.region r.region g.met.A.Kind.rereads g.met.R.Kind.rereads (SomeAstray a.holds r.holds t) c.args.properties.now t.properties are
          c.loop-index.index c.index-properties-index.result w.in-Some.property here (sym c.read_property.ensures ∙ w.in-Some.is) (c.loop-index.invariant t blocks are) none
      | in_default w ↦
          past_nothing a.plain r.plain a.region r.region g.met.A.Kind.rereads g.met.R.Kind.rereads (SomeAstray a.holds r.holds t) c.args.properties.now t.properties are
          c.loop-index.index c.index-properties-index.result here (sym c.read_property.ensures ∙ w.in_default.is)
    ]

pub returns : goal.returns
returns g c t blocks are =
    let a = g.A.Kind in
    let r = g.R.Kind in
    no_property a.plain r.plain a.region r.region g.met.A.Kind.rereads g.met.R.Kind.rereads (SomeAstray a.holds r.holds t) c.args.properties.now t.properties are
    c.loop-index.index c.loop-index-test.false (c.loop-index.invariant t blocks are)
