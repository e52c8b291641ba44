use Rattle.std.proofs.Common.{subst}
use Rattle.search.specs.Look.{MetSo, GoodAt}
use Rattle.search.proofs.Positions.{before_more}
use Rattle.search.proofs.Sights.{member_bad}
use Rattle.search.proofs.look.Viewed.after_bad.Goals as goal

pub returns-in-Nothing : goal.returns-in-Nothing
returns-in-Nothing g c =
    let holds = g.V.Region.Kind.holds in
    let ss = g.V.View.sights c.args.self.now.view.now in
    let met = subst (MetSo holds ss c.args.position c.args.region c.args.probe) c.in-Nothing.is c.requires.met in (
      (member_bad ss c.args.position _ c.requires.here, c.requires.crossing),
      before_more (GoodAt holds (holds c.args.region)) ss c.args.position _ c.requires.here met.0 (λ h. h),
    )

pub returns-in-Good : goal.returns-in-Good
returns-in-Good g c = (member_bad (g.V.View.sights c.args.self.now.view.now) c.args.position _ c.requires.here, c.requires.crossing)
