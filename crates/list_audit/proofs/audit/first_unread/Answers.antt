use Rattle.std.proofs.Common.{rules}
use Rattle.std.proofs.lemmas.Iterator.{YieldsList-from_slice, IsFirst-from_position}
use Rattle.search.proofs.Along.{Not, at_position}
use Rattle.list_audit.specs.Asked.{Unread}
use Rattle.list_audit.proofs.audit.first_unread.Goals as goal

pub returns : goal.returns
returns g c =
    let fits = Unread g.K.Kind.region in
    let found = IsFirst-from_position _ _ c.position.result fits (Not fits c.args.list.now) c.position.ensures.ran (YieldsList-from_slice c.args.list.now c.iter.ensures.rest) (λ x q h. search rules) (λ x q h. search rules) in
    at_position fits c.args.list.now c.position.result found
