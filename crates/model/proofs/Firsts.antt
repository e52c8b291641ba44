-- Finding the first of a list.
use Rattle.std.proofs.Common.{◌≡◌, ℕ, zero, suc, ◌<◌, ◌⊎◌, List, [], ◌∷◌, Some, sym, refl, subst, inl, inr, arith}
use Rattle.std.specs.List.{slice_get}
use Rattle.search.specs.First.{First, Nowhere, Before}
use Rattle.kinds.proofs.Provided.{none_some}

module _ {X : Type 0} (fits : X → Type 0) where
  nowhere_nil : Nowhere fits []
  nowhere_nil k y e f = none_some e

  nowhere_more : (x : X) (xs : List X) → (fits x → ⊥) → Nowhere fits xs → Nowhere fits (x ∷ xs)
  nowhere_more x xs n w zero y e f = let same : x ≡ y = cc in n (subst fits (sym same) f)
  nowhere_more x xs n w (suc k) y e f = w k y e f

  first_later : (x : X) (xs : List X) (k : ℕ) (y : X) → (fits x → ⊥) → First fits xs k y → First fits (x ∷ xs) (suc k) y
  first_later x xs k y n f = record { here = f.here; fit = f.fit; before = λ j. before_later j }
    where
      before_later : (j : ℕ) (z : X) → j < suc k → slice_get (x ∷ xs) j ≡ Some z → fits z → ⊥
      before_later zero z lt e g = let same : x ≡ z = cc in n (subst fits (sym same) g)
      before_later (suc j) z lt e g = f.before j z (omega arith) e g

  -- where fitting can be told, there is a first that fits or none does
  pub first_or_none : ((x : X) → Dec (fits x)) → (xs : List X) → ((k : ℕ) × (x : X) × First fits xs k x) ⊎ Nowhere fits xs
  first_or_none tell [] = inr nowhere_nil
  first_or_none tell (x ∷ xs) = elim (tell x) [
    | yes h ↦ inl (0, x, record { here = refl; fit = h; before = λ k y lt. absurd (omega arith) })
    | no n ↦ elim (first_or_none tell xs) [
      | inl (k, y, f) ↦ inl (suc k, y, first_later x xs k y n f)
      | inr w ↦ inr (nowhere_more x xs n w)
    ]
  ]

  -- where there is no first that fits, none does
  pub nowhere_since : (xs : List X) → ((k : ℕ) (x : X) → First fits xs k x → ⊥) → Nowhere fits xs
  nowhere_since xs no-first k y e f = before_all (suc k) k y (omega arith) e f
    where
      before_all : (n : ℕ) → Before fits xs n
      before_all zero j z lt there g = absurd (omega arith)
      before_all (suc n) j z lt there g = no-first j z (record { here = there; fit = g; before = λ i w less. before_all n i w (omega arith) })
