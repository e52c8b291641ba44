use Rattle.search.specs.First.{Before}
use Rattle.search.specs.List.{row_holds}
use Rattle.search.specs.declared.list.Entry.{Entry}
use Rattle.search.proofs.lookup.outcome_of.Given as goal

-- no entry so far holds the value
abbrev pub invariant-loop-position : goal.invariant-loop-position
invariant-loop-position g l = Before (λ (e : Entry g.row.K-Row.Denot). row_holds g.K.Kind.holds g.K.Kind.region e.row l.value) l.list l.position
