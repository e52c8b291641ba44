-- Going along a list.
use Rattle.std.proofs.Common.{◌≡◌, ℕ, ◌+◌, List, None, sym, ap, ◌∙◌, arith}
use native.Mathlib.Decide.{ℕ_discrete}
use Rattle.std.specs.List.{slice_get}
use Rattle.kinds.proofs.Provided.{none_some}
use Rattle.search.specs.First.{Before}

-- past a position at which nothing stands
pub before_nothing : {X : Type 0} (fits : X → Type 0) (xs : List X) (n : ℕ) → slice_get xs n ≡ None → Before fits xs n → Before fits xs (n + 1)
before_nothing fits xs n none before k y less at fit = elim (ℕ_discrete k n) [
  | yes same ↦ none_some (sym none ∙ ap (slice_get xs) (sym same) ∙ at)
  | no other ↦ before k y (omega arith) at fit
]
