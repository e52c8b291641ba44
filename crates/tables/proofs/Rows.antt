-- What a row put in, or taken out, leaves of a table, and how it is undone.
use Rattle.std.proofs.Common.{◌≡◌, ℕ, zero, suc, ◌+◌, ◌-◌, ◌<◌, ◌≤◌, List, [], ◌∷◌, ◌++◌, length, take, drop, set, Some, sym, refl, ap, ◌∙◌, ap₂, append_assoc, add-one, arith}
use Rattle.std.specs.List.{slice_get, insert, remove}
use Rattle.std.proofs.lemmas.List.Edits.{length-insert, length-remove}
use Rattle.std.proofs.lemmas.List.{length-drop, length-append, length-take-le, take_at, drop_at, set_at, take-append-drop}
use Rattle.tables.specs.Rows.{row_in, row_out}
use Rattle.tables.proofs.Shift.{drop_nth, nth_at, nth_below}

module _ {X : Type 0} where
  -- the element that was put in is taken out again, and the other way round
  removed_inserted : (l : List X) (at : ℕ) (x : X) → at ≤ length l → remove (insert l at x) at ≡ l
  removed_inserted l zero x low = refl
  removed_inserted [] (suc at) x low = absurd (omega arith)
  removed_inserted (y ∷ l) (suc at) x low = ap (λ (k : List X). y ∷ k) (removed_inserted l at x (omega arith))

  inserted_removed : (l : List X) (at : ℕ) (x : X) → slice_get l at ≡ Some x → insert (remove l at) at x ≡ l
  inserted_removed [] at x e = let z : ◌≡◌ {A = ℕ} 0 1 = cc in absurd (omega arith)
  inserted_removed (y ∷ l) zero x e = let same : y ≡ x = cc in ap (λ z. z ∷ l) (sym same)
  inserted_removed (y ∷ l) (suc at) x e = ap (λ (k : List X). y ∷ k) (inserted_removed l at x e)

  one_inserted : (l k : List X) (at : ℕ) (x : X) → at ≤ length l → take 1 (drop at (insert l at x ++ k)) ≡ x ∷ []
  one_inserted l k zero x low = refl
  one_inserted [] k (suc at) x low = absurd (omega arith)
  one_inserted (y ∷ l) k (suc at) x low = one_inserted l k at x (omega arith)

  pub nth_take : (n : ℕ) (xs : List X) (i : ℕ) → i < n → slice_get (take n xs) i ≡ slice_get xs i
  nth_take zero xs i less = absurd (omega arith)
  nth_take (suc n) [] i less = refl
  nth_take (suc n) (x ∷ xs) zero less = refl
  nth_take (suc n) (x ∷ xs) (suc i) less = nth_take n xs i (omega arith)

  pub undo_set : (xs : List X) (at : ℕ) (x old : X) → slice_get xs at ≡ Some old → set (set xs at x) at old ≡ xs
  undo_set [] at x old e = refl
  undo_set (y ∷ xs) zero x old e = let same : y ≡ old = cc in ap (λ z. z ∷ xs) (sym same)
  undo_set (y ∷ xs) (suc at) x old e = ap (λ (k : List X). y ∷ k) (undo_set xs at x old e)

  module _ (u at : ℕ) (x : X) (xs : List X) (low : at ≤ u) (room : u < length xs) where
    used_in : length (insert (take u xs) at x) ≡ u + 1
    used_in = let size = length-take-le u xs (omega arith) in length-insert (take u xs) at x (omega arith) ∙ ap (λ n. n + 1) size

    -- the used rows, one more than before
    pub take_row_in : take (u + 1) (row_in u at x xs) ≡ insert (take u xs) at x
    take_row_in = take_at (insert (take u xs) at x) (drop (u + 1) xs) (u + 1) used_in

    -- and those past them
    pub drop_row_in : drop (u + 1) (row_in u at x xs) ≡ drop (u + 1) xs
    drop_row_in = drop_at (insert (take u xs) at x) (drop (u + 1) xs) (u + 1) used_in

    pub length_row_in : length (row_in u at x xs) ≡ length xs
    length_row_in = let used = used_in in let left = length-drop (u + 1) xs in length-append (insert (take u xs) at x) (drop (u + 1) xs) ∙ omega arith

    -- taken out again, and the row that was used up put back
    pub undo_in : (old : X) → slice_get xs u ≡ Some old → set (row_out (u + 1) at (row_in u at x xs)) u old ≡ xs
    undo_in old e =
        let size = length-take-le u xs (omega arith) in
        let used = ap (λ (k : List X). remove k at) take_row_in ∙ removed_inserted (take u xs) at x (omega arith) in
        let one = one_inserted (take u xs) (drop (u + 1) xs) at x (omega arith) in
        let past = drop_at (insert (take u xs) at x) (drop (u + 1) xs) (u + 1) used_in in
        let out : row_out (u + 1) at (row_in u at x xs) ≡ take u xs ++ x ∷ drop (u + 1) xs = ap₂ (λ (a b : List X). a ++ b) used (ap₂ (λ (a b : List X). a ++ b) one past) in
        ap (λ (k : List X). set k u old) out
        ∙ set_at (take u xs) x (drop (u + 1) xs) old u size
        ∙ ap (λ (k : List X). take u xs ++ k) (ap (λ n. old ∷ drop n xs) (add-one u) ∙ sym (drop_nth xs u old e))
        ∙ take-append-drop u xs

  module _ (u at : ℕ) (xs : List X) (low : at < u) (room : u ≤ length xs) where
    used_out : length (remove (take u xs) at) ≡ u - 1
    used_out = let size = length-take-le u xs room in let less = length-remove (take u xs) at (omega arith) in omega arith

    one_out : length (take 1 (drop at xs)) ≡ 1
    one_out = length-take-le 1 (drop at xs) (rw length-drop (omega arith))

    -- the used rows, one less than before
    pub take_row_out : take (u - 1) (row_out u at xs) ≡ remove (take u xs) at
    take_row_out = take_at (remove (take u xs) at) (take 1 (drop at xs) ++ drop u xs) (u - 1) used_out

    -- the row that was taken out, behind them
    pub nth_row_out : slice_get (row_out u at xs) (u - 1) ≡ slice_get xs at
    nth_row_out =
        let (x, here) = nth_below xs at (omega arith) in
        let one : take 1 (drop at xs) ≡ x ∷ [] = ap (take 1) (drop_nth xs at x here) in
        ap (λ (l : List X). slice_get (remove (take u xs) at ++ (l ++ drop u xs)) (u - 1)) one ∙ nth_at (remove (take u xs) at) x (drop u xs) (u - 1) used_out ∙ sym here

    -- and those past them
    pub drop_row_out : drop u (row_out u at xs) ≡ drop u xs
    drop_row_out =
        let front = remove (take u xs) at ++ take 1 (drop at xs) in
        let size : length front ≡ u = let used = used_out in let one = one_out in length-append (remove (take u xs) at) (take 1 (drop at xs)) ∙ omega arith in
        ap (drop u) (sym (append_assoc (remove (take u xs) at) (take 1 (drop at xs)) (drop u xs))) ∙ drop_at front (drop u xs) u size

    pub length_row_out : length (row_out u at xs) ≡ length xs
    length_row_out =
        let used = used_out in
        let one = one_out in
        let left = length-drop u xs in
        length-append (remove (take u xs) at) (take 1 (drop at xs) ++ drop u xs) ∙ ap (λ n. length (remove (take u xs) at) + n) (length-append (take 1 (drop at xs)) (drop u xs)) ∙ omega arith

    -- put in again at its place
    pub undo_out : (x : X) → slice_get xs at ≡ Some x → row_in (u - 1) at x (row_out u at xs) ≡ xs
    undo_out x e =
        let used = used_out in
        let one = one_out in
        let front = remove (take u xs) at ++ take 1 (drop at xs) in
        let size : length front ≡ u - 1 + 1 = length-append (remove (take u xs) at) (take 1 (drop at xs)) ∙ ap₂ (λ a b. a + b) used one in
        let past : drop (u - 1 + 1) (row_out u at xs) ≡ drop u xs =
        ap (drop (u - 1 + 1)) (sym (append_assoc (remove (take u xs) at) (take 1 (drop at xs)) (drop u xs))) ∙ drop_at front (drop u xs) (u - 1 + 1) size in
        ap₂ (λ (a b : List X). a ++ b) (ap (λ (k : List X). insert k at x) take_row_out ∙ inserted_removed (take u xs) at x (nth_take u xs at low ∙ e)) past
        ∙ take-append-drop u xs
