-- The wholes of the Long form.
use Rattle.std.specs.Prelude.{◌^◌, ◌<◌, ◌≤◌}
use Rattle.kinds.specs.Words.{Exactly}
use Rattle.forms.specs.Prefix.{prefix_holds}
use Rattle.forms.specs.Range.{range_holds}
use Rattle.forms.specs.declared.prefix.Prefix.{Prefix}
use Rattle.grammar.specs.Lines.{LongRest}

-- all addresses, all ports and all protocols
pub record LongWholes (a : Prefix) (r : LongRest) : Type 0 where
  pub addresses : Exactly (prefix_holds a) (λ v. v < 2 ^ 32)
  pub source_ports : Exactly (range_holds r.left) (λ v. v ≤ 65535)
  pub destination_ports : Exactly (range_holds r.right.left) (λ v. v ≤ 65535)
  pub protocols : Exactly (range_holds r.right.right) (λ v. v ≤ 255)
