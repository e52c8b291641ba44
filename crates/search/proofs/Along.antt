-- The first of a list that fits, as `position` tells it.
use Rattle.std.proofs.Common.{◌≡◌, ℕ, ◌<◌, List, length, Some, None, Option, sym, subst, inl, inr, arith, MatchOption}
use Rattle.std.specs.List.{AllWithin, HoldsAt}
use Rattle.std.proofs.lemmas.Option.{get_or_from_slice_get, slice_get_cases}
use Rattle.search.specs.First.{First, Nowhere, Before}
use Rattle.search.proofs.Positions.{nth_get_or, nth_within}

module _ {X : Type 0} (fits : X → Type 0) (xs : List X) where
  abbrev pub Not : X → Type 0
  Not x = fits x → ⊥

  pub before_within : (n : ℕ) → AllWithin Not xs 0 n → Before fits xs n
  before_within n all k y less at = subst Not (get_or_from_slice_get xs k y y at) (all k y (omega arith) less)

  pub nowhere_within : AllWithin Not xs 0 (length xs) → Nowhere fits xs
  nowhere_within all k y at = before_within (length xs) all k y (nth_within xs k y at) at

  pub first_within : (n : ℕ) (x : X) → (n < length xs) × HoldsAt (λ y. y ≡ x) xs n × AllWithin Not xs 0 n → fits x → First fits xs n x
  first_within n x (less, is, all) fit = record { here = nth_get_or xs n x less (sym (is x)); fit = fit; before = before_within n all }

  -- the place that `position` tells, or none
  pub at_position : (r : Option ℕ) → MatchOption r (AllWithin Not xs 0 (length xs)) (λ i. (i < length xs) × HoldsAt fits xs i × AllWithin Not xs 0 i) → MatchOption r (Nowhere fits xs) (λ k. (x : X) × First fits xs k x)
  at_position None all = nowhere_within all
  at_position (Some k) (less, here, all) = elim ((slice_get_cases xs k).1) [
    | inl (x, inside, at, is) ↦ (x, record { here = at; fit = subst fits is (here x); before = before_within k all })
    | inr past ↦ absurd (omega arith)
  ]
