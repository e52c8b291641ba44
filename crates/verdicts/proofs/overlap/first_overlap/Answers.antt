use Rattle.std.proofs.Common.{rules}
use Rattle.std.proofs.lemmas.Iterator.{YieldsList-from_slice, IsFirst-from_position}
use Rattle.search.proofs.Along.{Not, at_position}
use Rattle.verdicts.proofs.Shared.{EntryShares, shared_found}
use Rattle.verdicts.proofs.overlap.first_overlap.Goals as goal

pub returns : goal.returns
returns g c bs is =
    let a = g.A.Kind in
    let fits = EntryShares a.holds a.plain a.region g.met.A.Kind.rereads c.args.region in
    let found = IsFirst-from_position _ _ c.position.result fits (Not fits c.args.blocks.now) c.position.ensures.ran (YieldsList-from_slice c.args.blocks.now c.iter.ensures.rest) (λ x q h. search rules) (λ x q h. search rules) in
    shared_found a.holds a.plain a.region g.met.A.Kind.rereads c.args.region _ bs is c.position.result (at_position fits c.args.blocks.now c.position.result found)
