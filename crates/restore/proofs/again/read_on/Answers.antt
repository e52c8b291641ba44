use Rattle.std.proofs.Common.{refl, sym, ◌∙◌}
use Rattle.std.proofs.lemmas.Bool.{true≢false}
use Rattle.state.specs.Memory.{tables_of}
use Rattle.restore.proofs.Speakable.{modest_speakable}
use Rattle.restore.proofs.Stepping.{ends, takes_next}
use Rattle.restore.proofs.again.read_on.Goals as goal

pub returns-then-starts_with-clause-reads : goal.returns-then-starts_with-clause-reads
returns-then-starts_with-clause-reads c x y es sets reached =
    let (size, at) = c.list-length.ensures.listed x y es sets.told sets.first in
    ends x y es sets.rebuilds c.args.console.now c.args.console.now _ (tables_of c.args.memory.now) _ sets.second (modest_speakable x y sets.wholes) c.args.line _ _ _ refl size at reached (sym c.starts_with.ensures.value ∙ c.if-starts_with.true)

pub returns-then-takes-clause-reads : goal.returns-then-takes-clause-reads
returns-then-takes-clause-reads c x y es sets reached =
    let (size, at) = c.list-length.ensures.listed x y es sets.told sets.first in
    let next = takes_next x y es sets.rebuilds c.args.console.now _ _ _ _ sets.second (modest_speakable x y sets.wholes) c.args.line _ _ _ c.saturating_sub.ensures size at reached (sym c.starts_with.ensures.value ∙ c.if-starts_with.false) c.takes.result c.takes.ensures.takes in
    next.1

pub returns-else-takes-clause-reads : goal.returns-else-takes-clause-reads
returns-else-takes-clause-reads c x y es sets reached =
    let (size, at) = c.list-length.ensures.listed x y es sets.told sets.first in
    let next = takes_next x y es sets.rebuilds c.args.console.now _ _ _ _ sets.second (modest_speakable x y sets.wholes) c.args.line _ _ _ c.saturating_sub.ensures size at reached (sym c.starts_with.ensures.value ∙ c.if-starts_with.false) c.takes.result c.takes.ensures.takes in
    absurd (true≢false (sym next.0 ∙ c.if-takes.false))
