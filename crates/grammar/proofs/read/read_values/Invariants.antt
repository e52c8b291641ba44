use Rattle.std.proofs.Common.{◌≡◌, ◌+◌, List, length, drop, Result}
use Rattle.spelling.specs.Forms.{Only}
use Rattle.tables.specs.FixedVec.{used}
use Rattle.grammar.specs.Fields.{ReadsBehind, parts_of}
use Rattle.grammar.specs.declared.fault.LineFault.{LineFault}
use Rattle.grammar.specs.declared.value.Value.{Value}
use Rattle.grammar.proofs.FieldsRead.{after}
use Rattle.grammar.proofs.read.read_values.Given as goal

abbrev pub invariant-loop-form : goal.invariant-loop-form
invariant-loop-form l = record {
  count : length (parts_of l.left) + l.form-index ≡ length l.forms;
  room : length (used l.values) ≡ l.form-index;
  read : (r : Result (List Value) LineFault) → Only (ReadsBehind (drop l.form-index l.forms) l.left) r → Only (ReadsBehind l.forms l.behind) (after (used l.values) r);
}
