use Rattle.std.proofs.Common.{sym}
use mathlib.Core.HLevel.{×_prop}
use native.Mathlib.Bridge.{le_prop}
use native.Mathlib.Nat.{ℕ_set}
use Rattle.kinds.specs.Makes.{provided_yes}
use Rattle.forms.proofs.prefix.Prefix.new.Goals as goal

pub returns-then-address-length-eq0 : goal.returns-then-address-length-eq0
returns-then-address-length-eq0 c = sym (provided_yes _ _ (×_prop le_prop (ℕ_set _ _)) _)
