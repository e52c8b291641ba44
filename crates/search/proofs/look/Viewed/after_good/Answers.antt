use Rattle.std.proofs.Common.{subst}
use Rattle.std.proofs.lemmas.Bool.Decides.{not_from_Decides}
use Rattle.search.specs.Look.{MetSo}
use Rattle.search.specs.View.{Holds}
use Rattle.search.proofs.Positions.{before_more}
use Rattle.search.proofs.Sights.{member_good}
use Rattle.search.proofs.look.Viewed.after_good.Goals as goal

pub returns-in-Nothing-2 : goal.returns-in-Nothing-2
returns-in-Nothing-2 g c =
    let holds = g.V.Region.Kind.holds in
    let ss = g.V.View.sights c.args.self.now.view.now in
    let met = subst (MetSo holds ss c.args.position c.args.region c.args.probe) c.in-Nothing-2.is c.requires.met in (
      (member_good ss c.args.position _ c.requires.here, c.requires.crossing),
      before_more (Holds holds c.args.probe) ss c.args.position _ c.requires.here met.1 (not_from_Decides _ c.has.ensures c.if-has.false),
    )
