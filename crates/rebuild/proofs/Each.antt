-- What holds of each element of a list, once the list has changed.
use Rattle.std.proofs.Common.{◌≡◌, ℕ, zero, suc, List, [], ◌∷◌, ◌++◌, set, Some, sym, refl, ◌∙◌, subst, inl, inr}
use Rattle.std.specs.List.{slice_get, insert, remove}
use Rattle.kinds.proofs.Provided.{none_some}
use Rattle.model.proofs.Rows.{nth_push, skip, nth_removed}

module _ {X : Type 0} (holds : X → Type 0) where
  abbrev pub Each : List X → Type 0
  Each xs = (k : ℕ) (x : X) → slice_get xs k ≡ Some x → holds x

  pub each_none : Each []
  each_none k x at = none_some at

  pub each_more : (x : X) (xs : List X) → holds x → Each xs → Each (x ∷ xs)
  each_more x xs h each zero y at = let same : x ≡ y = cc in subst holds same h
  each_more x xs h each (suc k) y at = each k y at

  pub each_push : (xs : List X) (x : X) → Each xs → holds x → Each (xs ++ (x ∷ []))
  each_push xs x each h k y at = elim (nth_push xs x y k at) [ inl old ↦ each k y old | inr (_, new) ↦ subst holds (sym new) h ]

  pub each_removed : (xs : List X) (i : ℕ) → Each xs → Each (remove xs i)
  each_removed xs i each k y at = each (skip i k) y (sym (nth_removed xs i k) ∙ at)

  pub each_set : (xs : List X) (i : ℕ) (x : X) → Each xs → holds x → Each (set xs i x)
  each_set [] i x each h = each_none
  each_set (y ∷ ys) zero x each h = each_more x ys h (λ k. each (suc k))
  each_set (y ∷ ys) (suc i) x each h = each_more y (set ys i x) (each zero y refl) (each_set ys i x (λ k. each (suc k)) h)

  pub each_inserted : (xs : List X) (i : ℕ) (x : X) → Each xs → holds x → Each (insert xs i x)
  each_inserted xs zero x each h = each_more x xs h each
  each_inserted [] (suc i) x each h = each_more x [] h each_none
  each_inserted (y ∷ ys) (suc i) x each h = each_more y (insert ys i x) (each zero y refl) (each_inserted ys i x (λ k. each (suc k)) h)

  -- what held of each element with one more among them
  pub each_uninserted : (xs : List X) (i : ℕ) (x : X) → Each (insert xs i x) → Each xs
  each_uninserted xs zero x each = λ k. each (suc k)
  each_uninserted [] (suc i) x each = each_none
  each_uninserted (y ∷ ys) (suc i) x each = each_more y ys (each zero y refl) (each_uninserted ys i x (λ k. each (suc k)))
