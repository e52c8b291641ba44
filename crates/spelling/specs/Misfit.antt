-- The first byte of a text that cannot stand there. L says which texts are right.
use Rattle.std.specs.Prelude.{◌≡◌, ℕ, ◌+◌, ◌<◌, ◌≤◌, ◌⊎◌, List, ◌++◌, length, take}

-- some right text begins so
abbrev pub CanGoOn : (List ℕ → Type 0) → List ℕ → Type 0
CanGoOn L text = (rest : List ℕ) × L (text ++ rest)

-- the first i bytes can go on; and they are the whole text, which is not right, or with one byte more they cannot go on
pub record Misfit (L : List ℕ → Type 0) (text : List ℕ) (i : ℕ) : Type 0 where
  pub within : i ≤ length text
  pub before : CanGoOn L (take i text)
  pub here : ((i ≡ length text) × (L text → ⊥)) ⊎ ((i < length text) × (CanGoOn L (take (i + 1) text) → ⊥))
