-- Firsts of a list whose elements are rewritten.
use Rattle.std.proofs.Common.{◌≡◌, ℕ, zero, suc, List, [], ◌∷◌, map, Some, sym, refl, ap, subst}
use Rattle.std.specs.List.{slice_get}
use Rattle.kinds.proofs.Provided.{none_some}
use Rattle.search.specs.First.{First, Nowhere}

module _ {X Y : Type 0} (f : X → Y) where
  pub nth_map : (xs : List X) (k : ℕ) (x : X) → slice_get xs k ≡ Some x → slice_get (map f xs) k ≡ Some (f x)
  nth_map [] k x e = none_some e
  nth_map (y ∷ xs) zero x e = let same : y ≡ x = cc in ap (λ z. Some (f z)) same
  nth_map (y ∷ xs) (suc k) x e = nth_map xs k x e

  pub nth_unmap : (xs : List X) (k : ℕ) (y : Y) → slice_get (map f xs) k ≡ Some y → (x : X) × (slice_get xs k ≡ Some x) × (y ≡ f x)
  nth_unmap [] k y e = none_some e
  nth_unmap (x ∷ xs) zero y e = (x, refl, let same : f x ≡ y = cc in sym same)
  nth_unmap (x ∷ xs) (suc k) y e = nth_unmap xs k y e

  module _ (P : X → Type 0) (Q : Y → Type 0) (into : (x : X) → P x → Q (f x)) (out : (x : X) → Q (f x) → P x) (xs : List X) where
    pub first_unmap : (k : ℕ) (y : Y) → First Q (map f xs) k y → (x : X) × First P xs k x × (y ≡ f x)
    first_unmap k y h =
        let (x, here, is) = nth_unmap xs k y h.here in
        (x, record { here = here; fit = out x (subst Q is h.fit); before = λ j z lt there p. h.before j (f z) lt (nth_map xs j z there) (into z p) }, is)

    pub first_map : (k : ℕ) (x : X) → First P xs k x → First Q (map f xs) k (f x)
    first_map k x h = record {
      here = nth_map xs k x h.here;
      fit = into x h.fit;
      before = λ j z lt there q. let (w, at, is) = nth_unmap xs j z there in h.before j w lt at (out w (subst Q is q));
    }

    pub nowhere_map : Nowhere P xs → Nowhere Q (map f xs)
    nowhere_map none k y e q = let (x, at, is) = nth_unmap xs k y e in none k x at (out x (subst Q is q))

    pub nowhere_unmap : Nowhere Q (map f xs) → Nowhere P xs
    nowhere_unmap none k x e p = none k (f x) (nth_map xs k x e) (into x p)
