use Rattle.std.proofs.Common.{sym}
use mathlib.Core.HLevel.{×_prop}
use native.Mathlib.Bridge.{le_prop}
use Rattle.kinds.specs.Makes.{provided_yes}
use Rattle.kinds.proofs.set.Set.new.Goals as goal

pub returns-else-mask-eq0 : goal.returns-else-mask-eq0
returns-else-mask-eq0 c = sym (provided_yes _ _ (×_prop le_prop le_prop) _)
