use Rattle.std.proofs.Common.{Some, subst}
use Rattle.search.specs.Answer.{Answered}
use Rattle.search.specs.List.{row_holds}
use Rattle.examples.specs.Flag.{flag_holds}
use Rattle.examples.specs.declared.flag.Flag.TheVariants.{Either}
use Rattle.examples.proofs.flag.search_flags.Goals as goal

pub returns-in-None : goal.returns-in-None
returns-in-None c =
    let (room, told) = c.in_ok-found.ensures in
    let none = subst (Answered (row_holds flag_holds (λ w. Some w)) c.args.list.now (flag_holds Either) c.args.wish) c.in-None.is told in
    (room, λ v h. none v h.0 tt h.1 h.2)
