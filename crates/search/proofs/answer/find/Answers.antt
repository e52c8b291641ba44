use Rattle.std.proofs.Common.{arith}
use Rattle.search.proofs.Views.{cutters_few}
use Rattle.search.proofs.answer.find.Goals as goal

pub explore-requires-clause-room : goal.explore-requires-clause-room
explore-requires-clause-room g c =
    let few = cutters_few g.K.Kind.holds g.K.Kind.region c.args.wish c.args.list.now in
    let room = c.requires in
    omega arith
