-- A pair of regions, from its parts.
use Rattle.std.specs.Prelude.{◌≡◌, ℕ, Some, None, Option}
use Rattle.std.proofs.Common.{ap, arith}
use Rattle.kinds.specs.Pair.{both}
use Rattle.kinds.specs.declared.pair.Pair.{Pair}

-- a pair is there only where both parts are
pub both_some : {X Y : Type 0} (x : Option X) (y : Option Y) (z : Pair X Y) → both x y ≡ Some z → (x ≡ Some z.left) × (y ≡ Some z.right)
both_some None y z e = let w : ◌≡◌ {A = ℕ} 0 1 = cc in absurd (omega arith)
both_some (Some x) None z e = let w : ◌≡◌ {A = ℕ} 0 1 = cc in absurd (omega arith)
both_some (Some x) (Some y) z e = let same : record { left = x; right = y } ≡ z = cc in (ap (λ p. Some p.left) same, ap (λ p. Some p.right) same)
