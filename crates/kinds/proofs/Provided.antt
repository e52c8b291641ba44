-- What holds of what is made, or of nothing, where a rule decides which.
use Rattle.std.specs.Prelude.{◌≡◌, ℕ, Some, None, MatchOption}
use Rattle.std.proofs.Common.{arith, refl}
use Rattle.kinds.specs.Made.{provided}

pub provided_cases : {P X : Type 0} (d : Dec P) (f : P → X) (A : Type 0) (B : X → Type 0) → ((P → ⊥) → A) → ((h : P) → B (f h)) → MatchOption (provided d f) A B
provided_cases (yes h) f A B a b = b h
provided_cases (no n) f A B a b = a n

-- where nothing may be made, nothing is
pub provided_no : {P X : Type 0} (d : Dec P) (f : P → X) → (P → ⊥) → provided d f ≡ None
provided_no (yes k) f n = absurd (n k)
provided_no (no _) f n = refl

-- what is made has what it was made for
pub provided_fits : {P X : Type 0} (d : Dec P) (f : P → X) (B : X → Type 0) → MatchOption (provided d f) ⊥ B → (h : P) × B (f h)
provided_fits (yes h) f B b = (h, b)
provided_fits (no n) f B b = absurd b

pub none_some : {X B : Type 0} {x : X} → None ≡ Some x → B
none_some e = let z : ◌≡◌ {A = ℕ} 0 1 = cc in absurd (omega arith)
