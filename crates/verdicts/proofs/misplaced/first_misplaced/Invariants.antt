use Rattle.std.proofs.Common.{◌≡◌, map}
use Rattle.search.specs.First.{Before}
use Rattle.model.specs.Refusals.{SomeAstray}
use Rattle.model.specs.Tree.{Tree}
use Rattle.checks.specs.Addresses.{BlocksAre}
use Rattle.checks.specs.Rows.{property_row}
use Rattle.verdicts.proofs.misplaced.first_misplaced.Given as goal

-- no property so far is misplaced
abbrev pub invariant-loop-index : goal.invariant-loop-index
invariant-loop-index g l =
    (t : Tree g.row.A.Denot g.row.R.Denot) → BlocksAre g.A.Kind l.blocks t
    → l.properties ≡ map (property_row g.A.Kind.plain g.R.Kind.plain) t.properties → Before (SomeAstray g.A.Kind.holds g.R.Kind.holds t) t.properties l.index
