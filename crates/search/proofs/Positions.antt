-- What stands at a position of a list.
use Rattle.std.proofs.Common.{◌≡◌, ℕ, zero, suc, ◌+◌, ◌-◌, ◌<◌, ◌≤◌, List, [], ◌∷◌, length, get_or, set, Some, sym, refl, ap, subst, arith}
use native.Mathlib.Decide.{ℕ_discrete}
use Rattle.std.specs.List.{slice_get}
use Rattle.search.specs.First.{Before, Nowhere}

module _ {X : Type 0} where
  pub nth_within : (xs : List X) (i : ℕ) (x : X) → slice_get xs i ≡ Some x → i < length xs
  nth_within [] i x e = let z : ◌≡◌ {A = ℕ} 0 1 = cc in absurd (omega arith)
  nth_within (y ∷ xs) zero x e = omega arith
  nth_within (y ∷ xs) (suc i) x e = let h = nth_within xs i x e in omega arith

  pub nth_set_same : (xs : List X) (i : ℕ) (x : X) → i < length xs → slice_get (set xs i x) i ≡ Some x
  nth_set_same [] i x h = absurd (omega arith)
  nth_set_same (y ∷ xs) zero x h = refl
  nth_set_same (y ∷ xs) (suc i) x h = nth_set_same xs i x (omega arith)

  pub nth_set_other : (xs : List X) (i k : ℕ) (x : X) → (k ≡ i → ⊥) → slice_get (set xs i x) k ≡ slice_get xs k
  nth_set_other [] i k x n = refl
  nth_set_other (y ∷ xs) zero zero x n = absurd (n refl)
  nth_set_other (y ∷ xs) zero (suc k) x n = refl
  nth_set_other (y ∷ xs) (suc i) zero x n = refl
  nth_set_other (y ∷ xs) (suc i) (suc k) x n = nth_set_other xs i k x (λ e. n (ap suc e))

  -- an element that was read at every default
  pub nth_get_or : (xs : List X) (i : ℕ) (x : X) → i < length xs → x ≡ get_or xs i x → slice_get xs i ≡ Some x
  nth_get_or [] i x h e = absurd (omega arith)
  nth_get_or (y ∷ xs) zero x h e = ap Some (sym e)
  nth_get_or (y ∷ xs) (suc i) x h e = nth_get_or xs i x (omega arith) e

  -- the last of the first n, read so
  pub last_read : (xs : List X) (n : ℕ) (x : X) → 0 < n → n ≤ length xs → x ≡ get_or xs (n - 1) x → slice_get xs (n - 1) ≡ Some x
  last_read xs n x some few e = nth_get_or xs (n - 1) x (omega arith) e

  pub before_none : (fits : X → Type 0) (xs : List X) → Before fits xs 0
  before_none fits xs k y h = absurd (omega arith)

  -- one position more
  pub before_more : (fits : X → Type 0) (xs : List X) (i : ℕ) (x : X) → slice_get xs i ≡ Some x → Before fits xs i → (fits x → ⊥) → Before fits xs (i + 1)
  before_more fits xs i x at b n k y h e f = elim (ℕ_discrete k i) [
    | yes same ↦ let alike : y ≡ x = cc in n (subst fits alike f)
    | no other ↦ b k y (omega arith) e f
  ]

  pub before_all : (fits : X → Type 0) (xs : List X) (i : ℕ) → length xs ≤ i → Before fits xs i → Nowhere fits xs
  before_all fits xs i h b k y e f = b k y (let w = nth_within xs k y e in omega arith) e f
