use Rattle.std.proofs.Common.{sym}
use Rattle.replay.proofs.run.lend_to_call.Goals as goal

-- each slice that comes back is the one that was lent
pub returns : goal.returns
returns g c =
    let same = c.apply.ensures.same in
    let rules = c.rules-1.given.1.1 (sym same.rules.0) in
    let blocks = c.blocks-1.given.1.1 (sym same.blocks.0) in
    let properties = c.properties-1.given.1.1 (sym same.properties.0) in
    record { promise = rw (rules, blocks, properties) c.apply.ensures.promise }
