-- What stands in a list behind some others, and what a change there makes.
use Rattle.std.proofs.Common.{◌≡◌, List, [], ◌∷◌, ◌++◌, length, set, Some, refl, ap}
use Rattle.std.specs.List.{slice_get, insert}

module _ {X : Type 0} where
  pub nth_behind : (xs : List X) (x : X) (ys : List X) → slice_get (xs ++ (x ∷ ys)) (length xs) ≡ Some x
  nth_behind [] x ys = refl
  nth_behind (y ∷ xs) x ys = nth_behind xs x ys

  pub set_behind : (xs : List X) (x y : X) (ys : List X) → set (xs ++ (x ∷ ys)) (length xs) y ≡ xs ++ (y ∷ ys)
  set_behind [] x y ys = refl
  set_behind (z ∷ xs) x y ys = ap (λ zs. z ∷ zs) (set_behind xs x y ys)

  pub insert_behind : (xs : List X) (y : X) (ys : List X) → insert (xs ++ ys) (length xs) y ≡ xs ++ (y ∷ ys)
  insert_behind [] y ys = refl
  insert_behind (z ∷ xs) y ys = ap (λ zs. z ∷ zs) (insert_behind xs y ys)
