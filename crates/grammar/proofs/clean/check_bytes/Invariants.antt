use Rattle.std.proofs.Common.{◌≤◌, take}
use Rattle.std.specs.List.{AllByRecursion}
use Rattle.grammar.specs.Reading.{Printed}
use Rattle.grammar.specs.declared.limits.TheConstants.{MAX_LINE}
use Rattle.grammar.proofs.clean.check_bytes.Given as goal

abbrev pub invariant-loop-place : goal.invariant-loop-place
invariant-loop-place l = record {
  few : l.place ≤ MAX_LINE;
  printed : AllByRecursion Printed (take l.place l.line);
}
