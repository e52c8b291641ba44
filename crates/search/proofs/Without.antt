-- A list without one of its members.
use Rattle.std.proofs.Common.{◌≡◌, suc, List, [], ◌∷◌, length, sym, refl, ap, ◌∙◌}
use mathlib.Core.List.{Memᴰ}

-- one shorter, with all the others
pub Mem_without : {X : Type 0} (e : X) (xs : List X) → Memᴰ e xs → (ys : List X) × (length xs ≡ suc (length ys)) × ((d : X) → Memᴰ d xs → (d ≡ e → ⊥) → Memᴰ d ys)
Mem_without e [] m = elim m [ ]
Mem_without {X} e (x ∷ xs) (Memᴰ.head same) = (xs, refl, λ d m other. stays d m other)
  where
    stays : (d : X) → Memᴰ d (x ∷ xs) → (d ≡ e → ⊥) → Memᴰ d xs
    stays d (Memᴰ.head h) other = absurd (other (h ∙ sym same))
    stays d (Memᴰ.tail m) other = m
Mem_without {X} e (x ∷ xs) (Memᴰ.tail m) = let (ys, shorter, others) = Mem_without e xs m in (x ∷ ys, ap suc shorter, λ d n other. keeps d ys n (others d) other)
  where
    keeps : (d : X) (ys : List X) → Memᴰ d (x ∷ xs) → (Memᴰ d xs → (d ≡ e → ⊥) → Memᴰ d ys) → (d ≡ e → ⊥) → Memᴰ d (x ∷ ys)
    keeps d ys (Memᴰ.head h) others other = Memᴰ.head h
    keeps d ys (Memᴰ.tail m) others other = Memᴰ.tail (others m other)
