-- Lists that have every value of a region.
use Rattle.std.specs.Prelude.{◌≡◌, ℕ, zero, suc, ◌<◌, List, [], ◌∷◌, ◌++◌}
use Rattle.std.proofs.Common.{arith}
use mathlib.Core.List.Memᴰ
use mathlib.Core.List.{Memᴰ}
use Rattle.std.proofs.Math.Decide.{ℕ_discrete}
use Rattle.kinds.specs.Words.{Finite}
use Rattle.kinds.specs.declared.pair.Pair.{Pair}

abbrev below : ℕ → List ℕ
below zero = []
below (suc n) = n ∷ below n

in_below : (n v : ℕ) → v < n → Memᴰ v (below n)
in_below zero v h = absurd (omega arith)
in_below (suc n) v h = elim (ℕ_discrete v n) [ yes e ↦ Memᴰ.head e | no ne ↦ Memᴰ.tail (in_below n v (omega arith)) ]

-- numbers below a bound
pub finite_below : (p : ℕ → Type 0) (n : ℕ) → ((v : ℕ) → p v → v < n) → Finite p
finite_below p n bound = (below n, λ v h. in_below n v (bound v h))

module _ {X Y : Type 0} where
  abbrev beside : X → Y → Pair X Y
  beside x y = record { left = x; right = y }

  abbrev row_of : X → List Y → List (Pair X Y)
  row_of x [] = []
  row_of x (y ∷ ys) = beside x y ∷ row_of x ys

  abbrev product : List X → List Y → List (Pair X Y)
  product [] ys = []
  product (x ∷ xs) ys = row_of x ys ++ product xs ys

  in_row : (x z : X) (y : Y) (ys : List Y) → x ≡ z → Memᴰ y ys → Memᴰ (beside x y) (row_of z ys)
  in_row x z y [] e m = elim m [ ]
  in_row x z y (w ∷ ys) e (Memᴰ.head d) = Memᴰ.head (λ i. beside (e i) (d i))
  in_row x z y (w ∷ ys) e (Memᴰ.tail m) = Memᴰ.tail (in_row x z y ys e m)

  in_product : (x : X) (y : Y) (xs : List X) (ys : List Y) → Memᴰ x xs → Memᴰ y ys → Memᴰ (beside x y) (product xs ys)
  in_product x y [] ys m n = elim m [ ]
  in_product x y (z ∷ xs) ys (Memᴰ.head e) n = Memᴰ.append_left (product xs ys) (in_row x z y ys e n)
  in_product x y (z ∷ xs) ys (Memᴰ.tail m) n = Memᴰ.append_right (row_of z ys) (in_product x y xs ys m n)

  -- pairs of values of two finite regions
  pub finite_pairs : (p : X → Type 0) (q : Y → Type 0) → Finite p → Finite q → Finite (λ (v : Pair X Y). p v.left × q v.right)
  finite_pairs p q xs ys =
      (product xs.0 ys.0, λ v h. in_product v.left v.right xs.0 ys.0 (xs.1 v.left h.0) (ys.1 v.right h.1))
