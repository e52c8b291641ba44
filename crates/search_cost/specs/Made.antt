-- What is made of a region, if there is one.
use Rattle.std.specs.Prelude.{◌≡◌, ℕ, Some, None, Option}
use Rattle.std.specs.Option.{option_map}
use Rattle.std.proofs.Common.{arith, refl}

-- it is there only where the region is
pub made_some : {X Y : Type 0} (f : X → Y) (o : Option X) (y : Y) → option_map f o ≡ Some y → (x : X) × (o ≡ Some x) × (f x ≡ y)
made_some f None y e = let w : ◌≡◌ {A = ℕ} 0 1 = cc in absurd (omega arith)
made_some f (Some x) y e = let same : f x ≡ y = cc in (x, refl, same)
