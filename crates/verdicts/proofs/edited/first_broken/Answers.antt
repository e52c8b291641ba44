use Rattle.std.proofs.Common.{sym, ◌∙◌, subst}
use Rattle.search.proofs.Positions.{nth_get_or}
use Rattle.model.specs.Refusals.{Broken}
use Rattle.model.specs.Tree.{with_rules}
use Rattle.checks.proofs.PropertyRows.{read_at, past_nothing, past_property, first_property, no_property}
use Rattle.verdicts.specs.Edited.{BreakAtFound}
use Rattle.verdicts.proofs.edited.first_broken.Goals as goal
use Rattle.verdicts.proofs.edited.first_broken.Goals.{in-Some+in_default-break_at, in_default}

pub returns-in-Some-break_at : goal.returns-in-Some-break_at
returns-in-Some-break_at g c t rs same less is are kept =
    let a = g.A.Kind in
    let r = g.R.Kind in
    let p = c.in-Some.property in
    let fits = Broken a.holds r.holds (with_rules t c.args.firewall rs) in
    let here = nth_get_or c.args.properties.now c.loop-index.index c.index-properties-index.result c.loop-index-test.true c.index-properties-index.is in
    let reads = sym c.read_property.ensures ∙ c.in-Some.is in
    let at = read_at a.plain r.plain a.region r.region g.met.A.Kind.rereads g.met.R.Kind.rereads fits c.args.properties.now t.properties are c.loop-index.index c.index-properties-index.result p here reads in
    let found = c.break_at.ensures t rs same less is (kept c.loop-index.index p at) in
    let breaks = subst (BreakAtFound a.holds r.holds t c.args.firewall rs p) c.in-Some-break_at.is found in (
      p,
      first_property a.plain r.plain a.region r.region g.met.A.Kind.rereads g.met.R.Kind.rereads fits c.args.properties.now t.properties are c.loop-index.index c.index-properties-index.result p here reads (c.loop-index.invariant t rs same less is are kept) (c.args.firewall, c.in-Some-break_at.packet, breaks),
      breaks,
    )

pub loop-index-preserved : goal.loop-index-preserved
loop-index-preserved g c t rs same less is are kept =
    let a = g.A.Kind in
    let r = g.R.Kind in
    let fits = Broken a.holds r.holds (with_rules t c.args.firewall rs) in
    let here = nth_get_or c.args.properties.now c.loop-index.index c.index-properties-index.result c.loop-index-test.true c.index-properties-index.is in
    elim c.match-read_property.branch [
      | in-Some+in_default-break_at w ↦
          let p = w.in-Some.property in
          let reads = sym c.read_property.ensures ∙ w.in-Some.is in
          let at = read_at a.plain r.plain a.region r.region g.met.A.Kind.rereads g.met.R.Kind.rereads fits c.args.properties.now t.properties are c.loop-index.index c.index-properties-index.result p here reads in
          let found = w.break_at.ensures t rs same less is (kept c.loop-index.index p at) in
          let none = subst (BreakAtFound a.holds r.holds t c.args.firewall rs p) w.in_default-break_at.is found in
          past_property a.plain r.plain a.region r.region g.met.A.Kind.rereads g.met.R.Kind.rereads fits c.args.properties.now t.properties are c.loop-index.index c.index-properties-index.result p here reads (c.loop-index.invariant t rs same less is are kept) none
      | in_default w ↦
          past_nothing a.plain r.plain a.region r.region g.met.A.Kind.rereads g.met.R.Kind.rereads fits c.args.properties.now t.properties are c.loop-index.index c.index-properties-index.result here (sym c.read_property.ensures ∙ w.in_default.is)
    ]

pub returns : goal.returns
returns g c t rs same less is are kept =
    let a = g.A.Kind in
    let r = g.R.Kind in
    no_property a.plain r.plain a.region r.region g.met.A.Kind.rereads g.met.R.Kind.rereads (Broken a.holds r.holds (with_rules t c.args.firewall rs)) c.args.properties.now t.properties are
    c.loop-index.index c.loop-index-test.false (c.loop-index.invariant t rs same less is are kept)
