use Rattle.std.proofs.lemmas.Bool.Decides.{not_from_Decides}
use Rattle.search.proofs.cut.settle.Goals as goal

-- what is joined lies in the region and in what was learned
pub cut_along-requires : goal.cut_along-requires
cut_along-requires g c =
    let v = g.met.K.Kind.inhabited c.args.cut.joint in
    ((v.0, c.requires.within v.0 v.1, c.learn-learned.ensures.around v.0 v.1), not_from_Decides _ c.lies_inside.ensures c.if-lies_inside.false)
