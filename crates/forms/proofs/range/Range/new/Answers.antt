use Rattle.std.proofs.Common.{sym}
use native.Mathlib.Bridge.{le_prop}
use Rattle.kinds.specs.Makes.{provided_yes}
use Rattle.forms.proofs.range.Range.new.Goals as goal

pub returns-then-lo-hi : goal.returns-then-lo-hi
returns-then-lo-hi c = sym (provided_yes _ _ le_prop _)
