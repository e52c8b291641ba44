-- Parts of a text.
use Rattle.std.proofs.Common.{◌≡◌, ℕ, zero, suc, ◌+◌, ◌<◌, List, [], ◌∷◌, ◌++◌, length, take, drop, Some, sym, refl, ap, ◌∙◌, arith}
use Rattle.std.specs.List.{slice_get}

module _ {X : Type 0} where
  nothing : (m : ℕ) → take {A = X} m [] ≡ []
  nothing zero = refl
  nothing (suc m) = refl

  pub take_sum : (n m : ℕ) (xs : List X) → take (n + m) xs ≡ take n xs ++ take m (drop n xs)
  take_sum zero m xs = let e : zero + m ≡ m = omega arith in ap (λ k. take k xs) e
  take_sum (suc n) m [] = let e : suc n + m ≡ suc (n + m) = omega arith in ap (λ k. take k []) e ∙ sym (nothing m)
  take_sum (suc n) m (x ∷ xs) = let e : suc n + m ≡ suc (n + m) = omega arith in ap (λ k. take k (x ∷ xs)) e ∙ ap (λ ys. x ∷ ys) (take_sum n m xs)

  -- y begins with the element with which x begins, or both are empty
  abbrev pub SameFirst : List X → List X → Type 0
  SameFirst [] y = y ≡ []
  SameFirst (b ∷ x) y = (rest : List X) × (y ≡ b ∷ rest)

  pub same_head : (x y z : List X) (b : X) → SameFirst x y → y ≡ b ∷ z → (rest : List X) × (x ≡ b ∷ rest)
  same_head [] y z b s e = let n : ◌≡◌ {A = ℕ} 0 1 = cc in absurd (omega arith)
  same_head (c ∷ x) y z b (rest, is) e = let same : c ≡ b = cc in (x, ap (λ d. d ∷ x) same)

  pub same_some : (x y : List X) → SameFirst x y → 0 < length x → 0 < length y
  same_some [] y s some = absurd (omega arith)
  same_some (c ∷ x) y (rest, is) some = let size = ap length is in omega arith

  pub first_of : (xs : List X) (i : ℕ) (x : X) → slice_get xs i ≡ Some x → drop i xs ≡ x ∷ drop (i + 1) xs
  first_of [] i x e = let z : ◌≡◌ {A = ℕ} 0 1 = cc in absurd (omega arith)
  first_of (y ∷ xs) zero x e = let same : y ≡ x = cc in ap (λ z. z ∷ xs) same
  first_of (y ∷ xs) (suc i) x e = let next : suc i + 1 ≡ suc (i + 1) = omega arith in first_of xs i x e ∙ ap (λ k. x ∷ drop k (y ∷ xs)) (sym next)

  pub first_is : (xs : List X) (i : ℕ) (x : X) (rest : List X) → drop i xs ≡ x ∷ rest → slice_get xs i ≡ Some x
  first_is [] zero x rest e = let z : ◌≡◌ {A = ℕ} 0 1 = cc in absurd (omega arith)
  first_is [] (suc i) x rest e = let z : ◌≡◌ {A = ℕ} 0 1 = cc in absurd (omega arith)
  first_is (y ∷ xs) zero x rest e = let same : y ≡ x = cc in ap Some same
  first_is (y ∷ xs) (suc i) x rest e = first_is xs i x rest e
