-- What a turn of a part of a table leaves: one row put in, or taken out.
use Rattle.std.proofs.Common.{◌≡◌, ℕ, zero, suc, ◌+◌, ◌-◌, ◌<◌, ◌≤◌, List, [], ◌∷◌, ◌++◌, length, take, drop, set, Some, sym, refl, ap, ◌∙◌, subst, ap₂, subst₂, append_assoc, add-one, arith}
use borrow.Rule.Slice.PartMut.{put_mid}
use Rattle.std.specs.List.{slice_get, insert, remove}
use Rattle.std.proofs.lemmas.List.{drop_more, length-drop, length-set, length-append, length_push, length-take-le, take-take, drop-take, drop-set-add, take_more_set, take-set-le, drop-set-lt, take_at, drop_at, take-append-drop}
use Rattle.tables.specs.Rows.{row_in, row_out}
use Rattle.std.proofs.lemmas.Option.{get_or_from_slice_get, slice_get_within}
use Rattle.std.proofs.lemmas.Slice.{take-put_mid, drop-put_mid}

pub drop_nth : {X : Type 0} (xs : List X) (i : ℕ) (x : X) → slice_get xs i ≡ Some x → drop i xs ≡ x ∷ drop (suc i) xs
drop_nth xs i x e = drop_more xs i x (slice_get_within xs i x e) ∙ ap₂ (λ y n. y ∷ drop n xs) (get_or_from_slice_get xs i x x e) (add-one i)

pub nth_at : {X : Type 0} (ys : List X) (x : X) (zs : List X) (n : ℕ) → length ys ≡ n → slice_get (ys ++ x ∷ zs) n ≡ Some x
nth_at [] x zs zero e = refl
nth_at [] x zs (suc n) e = absurd (omega arith)
nth_at (y ∷ ys) x zs zero e = absurd (omega arith)
nth_at (y ∷ ys) x zs (suc n) e = nth_at ys x zs n (omega arith)

pub nth_below : {X : Type 0} (xs : List X) (i : ℕ) → i < length xs → (x : X) × (slice_get xs i ≡ Some x)
nth_below [] i h = absurd (omega arith)
nth_below (x ∷ xs) zero h = (x, refl)
nth_below (x ∷ xs) (suc i) h = nth_below xs i (omega arith)

halves : {X : Type 0} (n : ℕ) (xs ys zs : List X) → take n xs ≡ ys → drop n xs ≡ zs → xs ≡ ys ++ zs
halves n xs ys zs front rest = sym (take-append-drop n xs) ∙ ap₂ (λ a b. a ++ b) front rest

module _ {X : Type 0} (xs : List X) where
  -- the used rows around a position
  inserted_take : (at m : ℕ) (x : X) → insert (take (at + m) xs) at x ≡ take at xs ++ x ∷ take m (drop at xs)
  inserted_take at m x = ap₂ (λ a b. a ++ x ∷ b) (take-take at (at + m) xs (omega arith)) (drop-take at m xs)

  -- the part from `at` on, with the new row behind the used ones
  part_with : (at m : ℕ) (x : X) → at + m < length xs → take (m + 1) (drop at (set xs (at + m) x)) ≡ take m (drop at xs) ++ x ∷ []
  part_with at m x room = ap (take (m + 1)) (drop-set-add at xs m x) ∙ take_more_set (drop at xs) m x (rw length-drop (omega arith))

  turned_right : (ys : List X) (m : ℕ) (x : X) → length ys ≡ m → drop m (ys ++ x ∷ []) ++ take m (ys ++ x ∷ []) ≡ x ∷ ys
  turned_right ys m x e = ap₂ (λ a b. a ++ b) (drop_at ys (x ∷ []) m e) (take_at ys (x ∷ []) m e)

  module _ (at m : ℕ) (x : X) (room : at + m < length xs) where
    long : length (take m (drop at xs)) ≡ m
    long = length-take-le m (drop at xs) (rw length-drop (omega arith))

    pub insert_used : (zs : List X) → zs ≡ x ∷ take m (drop at xs) → take (at + m + 1) (put_mid at (m + 1) (set xs (at + m) x) zs) ≡ insert (take (at + m) xs) at x
    insert_used zs e =
        let n = ap length e in
        let l = long in
        take-put_mid at (m + 1) (set xs (at + m) x) zs (at + m + 1) (omega arith) (rw length-set (omega arith))
        ∙ ap₂ (λ a b. a ++ b) (take-set-le at xs (at + m) x (omega arith)) e ∙ sym (inserted_take at m x)

    pub insert_past : (zs : List X) → zs ≡ x ∷ take m (drop at xs) → drop (at + m + 1) (put_mid at (m + 1) (set xs (at + m) x) zs) ≡ drop (at + m + 1) xs
    insert_past zs e =
        let n = ap length e in
        let l = long in
        drop-put_mid at (m + 1) (set xs (at + m) x) zs (at + m + 1) (omega arith) (rw length-set (omega arith)) (omega arith)
        ∙ drop-set-lt (at + m + 1) xs (at + m) x (omega arith)

    pub turned : (zs part : List X) → part ≡ take (m + 1) (drop at (set xs (at + m) x)) → zs ≡ drop (length part - 1) part ++ take (length part - 1) part → zs ≡ x ∷ take m (drop at xs)
    turned zs part is e =
        let shape = is ∙ part_with at m x room in
        let size : length part - 1 ≡ m = let n = ap length shape ∙ length_push (take m (drop at xs)) x in let l = long in omega arith in
        e ∙ ap₂ (λ n p. drop n p ++ take n p) size shape ∙ turned_right (take m (drop at xs)) m x long

  -- the same, with the numbers as the code has them: u rows are used, and the part has k
  pub inserted_rows : (u at k : ℕ) (x : X) (zs part : List X) → at ≤ u → u < length xs → k ≡ u + 1 - at → part ≡ take k (drop at (set xs u x)) → zs ≡ drop (length part - 1) part ++ take (length part - 1) part
      → put_mid at k (set xs u x) zs ≡ row_in u at x xs
  inserted_rows u at k x zs part low room size is e =
      let m = u - at in
      let sum : at + m ≡ u = omega arith in
      let more : m + 1 ≡ k = omega arith in
      subst₂ (λ n j. n < length xs → part ≡ take j (drop at (set xs n x)) → put_mid at j (set xs n x) zs ≡ row_in n at x xs)
      sum more (λ r q. let t = turned at m x r zs part q e in halves (at + m + 1) _ _ _ (insert_used at m x r zs t) (insert_past at m x r zs t)) room is

  -- a row taken out: the part from `at` on has k rows, and is turned left by one
  module _ (at m : ℕ) (x : X) (here : slice_get xs at ≡ Some x) (room : at + suc m ≤ length xs) where
    part_of : take (suc m) (drop at xs) ≡ x ∷ take m (drop (suc at) xs)
    part_of = ap (take (suc m)) (drop_nth xs at x here)

    pub remove_turned : (zs part : List X) → part ≡ take (suc m) (drop at xs) → zs ≡ drop 1 part ++ take 1 part → zs ≡ take m (drop (suc at) xs) ++ x ∷ []
    remove_turned zs part is e = e ∙ ap (λ p. drop 1 p ++ take 1 p) (is ∙ part_of)

    long_rest : length (take m (drop (suc at) xs)) ≡ m
    long_rest = length-take-le m (drop (suc at) xs) (rw length-drop (omega arith))

    removed_take : remove (take (at + suc m) xs) at ≡ take at xs ++ take m (drop (suc at) xs)
    removed_take =
        let sum : at + suc m ≡ suc at + m = omega arith in
        ap₂ (λ a b. a ++ b) (take-take at (at + suc m) xs (omega arith)) (ap (λ n. drop (suc at) (take n xs)) sum ∙ drop-take (suc at) m xs)

    pub remove_all : (zs : List X) → zs ≡ take m (drop (suc at) xs) ++ x ∷ [] → (take (at + m) (put_mid at (suc m) xs zs) ≡ remove (take (at + suc m) xs) at) × (slice_get (put_mid at (suc m) xs zs) (at + m) ≡ Some x) × (drop (at + suc m) (put_mid at (suc m) xs zs) ≡ drop (at + suc m) xs)
    remove_all zs e =
        let front = take at xs ++ take m (drop (suc at) xs) in
        let post = drop (suc m) (drop at xs) in
        let size : length front ≡ at + m = length-append (take at xs) (take m (drop (suc at) xs)) ∙ ap₂ (λ a b. a + b) (length-take-le at xs (omega arith)) long_rest in
        let whole : put_mid at (suc m) xs zs ≡ front ++ x ∷ post =
        ap (λ (l : List X). take at xs ++ (l ++ post)) e ∙ ap (λ (l : List X). take at xs ++ l) (append_assoc (take m (drop (suc at) xs)) (x ∷ []) post) ∙ sym (append_assoc (take at xs) (take m (drop (suc at) xs)) (x ∷ post)) in
        let n = ap length e ∙ length_push (take m (drop (suc at) xs)) x in
        let l = long_rest in (
          ap (take (at + m)) whole ∙ take_at front (x ∷ post) (at + m) size ∙ sym removed_take,
          ap (λ (l : List X). slice_get l (at + m)) whole ∙ nth_at front x post (at + m) size,
          drop-put_mid at (suc m) xs zs (at + suc m) (omega arith) (omega arith) (omega arith),
        )

  pub removed_rows : (u at k : ℕ) (zs part : List X) → at < u → u ≤ length xs → k ≡ u - at → part ≡ take k (drop at xs) → zs ≡ drop 1 part ++ take 1 part
      → put_mid at k xs zs ≡ row_out u at xs
  removed_rows u at k zs part low room size is e =
      let m = u - at - 1 in
      let (x, here) = nth_below xs at (omega arith) in
      let sum : at + suc m ≡ u = omega arith in
      let less : at + m ≡ u - 1 = omega arith in
      let more : suc m ≡ k = omega arith in
      let all = remove_all at m x here (omega arith) zs (remove_turned at m x here (omega arith) zs part (subst (λ j. part ≡ take j (drop at xs)) (sym more) is) e) in
      let one : take 1 (drop at xs) ≡ x ∷ [] = ap (take 1) (drop_nth xs at x here) in
      let behind : drop (at + m) (put_mid at (suc m) xs zs) ≡ x ∷ drop (at + suc m) xs =
      drop_nth (put_mid at (suc m) xs zs) (at + m) x all.1 ∙ ap (λ l. x ∷ l) (ap (λ n. drop n (put_mid at (suc m) xs zs)) (let q : suc (at + m) ≡ at + suc m = omega arith in q) ∙ all.2) in
      let whole : put_mid at (suc m) xs zs ≡ row_out (at + suc m) at xs =
      halves (at + m) _ _ _ all.0 (behind ∙ ap (λ l. l ++ drop (at + suc m) xs) (sym one)) in
      subst₂ (λ n j. put_mid at j xs zs ≡ row_out n at xs) sum more whole
