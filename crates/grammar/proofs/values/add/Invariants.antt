use Rattle.std.proofs.Common.{◌≡◌, ◌++◌, take}
use Rattle.tables.specs.FixedVec.{used}
use Rattle.grammar.proofs.values.add.Given as goal

abbrev pub invariant-loop-value : goal.invariant-loop-value
invariant-loop-value l = used l.list ≡ used l.fn.list ++ take l.value-index l.values
