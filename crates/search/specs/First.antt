-- The first of a list.
use Rattle.std.specs.Prelude.{◌≡◌, ℕ, ◌<◌, List, Some}
use Rattle.std.specs.List.{slice_get}

-- none of xs fits, before position p
abbrev pub Before : {X : Type 0} → (X → Type 0) → List X → ℕ → Type 0
Before {X} fits xs p = (k : ℕ) (y : X) → k < p → slice_get xs k ≡ Some y → fits y → ⊥

-- x, at position p, is the first of xs that fits
pub record First {X : Type 0} (fits : X → Type 0) (xs : List X) (p : ℕ) (x : X) : Type 0 where
  pub here : slice_get xs p ≡ Some x
  pub fit : fits x
  pub before : Before fits xs p

-- none of xs fits
abbrev pub Nowhere : {X : Type 0} → (X → Type 0) → List X → Type 0
Nowhere {X} fits xs = (k : ℕ) (y : X) → slice_get xs k ≡ Some y → fits y → ⊥
