-- What stands where in two lists joined.
use Rattle.std.proofs.Common.{◌≡◌, ℕ, zero, suc, ◌+◌, ◌<◌, List, [], ◌∷◌, ◌++◌, length, refl, ap, arith}
use Rattle.std.specs.List.{slice_get}

module _ {X : Type 0} where
  pub nth_front : (xs ys : List X) (n : ℕ) → n < length xs → slice_get (xs ++ ys) n ≡ slice_get xs n
  nth_front [] ys n less = absurd (omega arith)
  nth_front (x ∷ xs) ys zero less = refl
  nth_front (x ∷ xs) ys (suc n) less = nth_front xs ys n (omega arith)

  pub nth_back : (xs ys : List X) (n k : ℕ) → n ≡ length xs + k → slice_get (xs ++ ys) n ≡ slice_get ys k
  nth_back [] ys n k e = let same : n ≡ k = omega arith in ap (slice_get ys) same
  nth_back (x ∷ xs) ys zero k e = absurd (omega arith)
  nth_back (x ∷ xs) ys (suc n) k e = nth_back xs ys n k (omega arith)
