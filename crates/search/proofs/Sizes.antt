-- How many members of a list a region holds.
use Rattle.std.proofs.Common.{ℕ, suc, ◌+◌, ◌<◌, ◌≤◌, List, [], ◌∷◌, subst, arith}
use mathlib.Core.List.{Memᴰ}
use Rattle.kinds.specs.Words.{Inside, Disjoint}

abbrev tick : {P : Type 0} → Dec P → ℕ → ℕ
tick (yes h) n = suc n
tick (no h) n = n

tick_low : {P : Type 0} (d : Dec P) (n : ℕ) → n ≤ tick d n
tick_low (yes h) n = omega arith
tick_low (no h) n = omega arith

tick_yes : {P : Type 0} (d : Dec P) (n : ℕ) → P → 0 < tick d n
tick_yes (yes h) n p = omega arith
tick_yes (no h) n p = absurd (h p)

tick_apart : {P A B : Type 0} (d : Dec P) (a : Dec A) (b : Dec B) (n i j : ℕ) → (A → P) → (B → P) → (A → B → ⊥) → i + j ≤ n → tick a i + tick b j ≤ tick d n
tick_apart d (yes x) (yes y) n i j fa fb apart le = absurd (apart x y)
tick_apart (yes p) (yes x) (no y) n i j fa fb apart le = omega arith
tick_apart (yes p) (no x) (yes y) n i j fa fb apart le = omega arith
tick_apart (yes p) (no x) (no y) n i j fa fb apart le = omega arith
tick_apart (no p) (yes x) b n i j fa fb apart le = absurd (p (fa x))
tick_apart (no p) (no x) (yes y) n i j fa fb apart le = absurd (p (fb y))
tick_apart (no p) (no x) (no y) n i j fa fb apart le = le

module _ {V : Type 0} where
  -- the members of vs that p holds
  abbrev pub size : (p : V → Type 0) → ((v : V) → Dec (p v)) → List V → ℕ
  size p d [] = 0
  size p d (v ∷ vs) = tick (d v) (size p d vs)

  pub size_some : (p : V → Type 0) (d : (v : V) → Dec (p v)) (vs : List V) (v : V) → Memᴰ v vs → p v → 0 < size p d vs
  size_some p d [] v m h = elim m [ ]
  size_some p d (w ∷ vs) v (Memᴰ.head e) h = tick_yes (d w) (size p d vs) (subst p e h)
  size_some p d (w ∷ vs) v (Memᴰ.tail m) h = let more = size_some p d vs v m h in let low = tick_low (d w) (size p d vs) in omega arith

  -- two parts of p that share nothing
  pub size_apart : (p a b : V → Type 0) (d : (v : V) → Dec (p v)) (da : (v : V) → Dec (a v)) (db : (v : V) → Dec (b v)) → Inside a p → Inside b p → Disjoint a b → (vs : List V) → size a da vs + size b db vs ≤ size p d vs
  size_apart p a b d da db ap bp apart [] = omega arith
  size_apart p a b d da db ap bp apart (v ∷ vs) = tick_apart (d v) (da v) (db v) _ _ _ (ap v) (bp v) (apart v) (size_apart p a b d da db ap bp apart vs)
