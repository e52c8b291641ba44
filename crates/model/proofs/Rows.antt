-- What stands where in a list that has grown or lost an element.
use Rattle.std.proofs.Common.{◌≡◌, ℕ, zero, suc, ◌⊎◌, List, [], ◌∷◌, ◌++◌, length, Some, sym, refl, ap, inl, inr, arith}
use Rattle.std.specs.List.{slice_get, remove}
use Rattle.kinds.proofs.Provided.{none_some}

module _ {X : Type 0} where
  pub nth_push : (xs : List X) (x y : X) (k : ℕ) → slice_get (xs ++ x ∷ []) k ≡ Some y → (slice_get xs k ≡ Some y) ⊎ ((k ≡ length xs) × (y ≡ x))
  nth_push [] x y zero e = inr (refl, let same : x ≡ y = cc in sym same)
  nth_push [] x y (suc k) e = none_some e
  nth_push (z ∷ xs) x y zero e = inl e
  nth_push (z ∷ xs) x y (suc k) e = elim (nth_push xs x y k e) [ inl h ↦ inl h | inr h ↦ inr (ap suc h.0, h.1) ]

-- the place in a list of what stands at k once the element at i is gone
abbrev pub skip : ℕ → ℕ → ℕ
skip zero k = suc k
skip (suc i) zero = zero
skip (suc i) (suc k) = suc (skip i k)

pub skip_one : (i j k : ℕ) → skip i j ≡ skip i k → j ≡ k
skip_one zero j k e = omega arith
skip_one (suc i) zero zero e = refl
skip_one (suc i) zero (suc k) e = absurd (omega arith)
skip_one (suc i) (suc j) zero e = absurd (omega arith)
skip_one (suc i) (suc j) (suc k) e = ap suc (skip_one i j k (omega arith))

pub nth_removed : {X : Type 0} (xs : List X) (i k : ℕ) → slice_get (remove xs i) k ≡ slice_get xs (skip i k)
nth_removed [] zero k = refl
nth_removed [] (suc i) zero = refl
nth_removed [] (suc i) (suc k) = refl
nth_removed (x ∷ xs) zero k = refl
nth_removed (x ∷ xs) (suc i) zero = refl
nth_removed (x ∷ xs) (suc i) (suc k) = nth_removed xs i k
