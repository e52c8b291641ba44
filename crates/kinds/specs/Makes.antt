-- What is made only where a rule holds.
use Rattle.std.specs.Prelude.{◌≡◌, ℕ, Some}
use Rattle.std.proofs.Common.{ap, arith}
use Rattle.kinds.specs.Made.{provided}

pub provided_yes : {P X : Type 0} (d : Dec P) (f : P → X) → IsProp P → (h : P) → provided d f ≡ Some (f h)
provided_yes (yes k) f prop h = ap (λ p. Some (f p)) (prop k h)
provided_yes (no n) f prop h = absurd (n h)

pub provided_some : {P X : Type 0} (d : Dec P) (f : P → X) (x : X) → provided d f ≡ Some x → (h : P) × (f h ≡ x)
provided_some (yes k) f x e = (k, cc)
provided_some (no n) f x e = let z : ◌≡◌ {A = ℕ} 0 1 = cc in absurd (omega arith)
