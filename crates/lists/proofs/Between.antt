-- Parts of a table, and edits of a part that lies between two others.
use Rattle.std.proofs.Common.{◌≡◌, ℕ, suc, ◌+◌, ◌-◌, ◌<◌, ◌≤◌, List, ◌∷◌, ◌++◌, map, length, take, drop, set, sym, refl, ap, ◌∙◌, ap₂, append_assoc, arith, length-append, length-take, take-take, take_at, drop_at}
use mathlib.Core.List.{map-append}
use lib.Seq.{take-append-add, drop-append-add, take-append-le, drop-append-le, set-append_left}
use Rattle.std.specs.List.{insert, remove}
use Rattle.std.proofs.lemmas.List.{drop-take, take-map, drop-map, set-append_right}

-- the part of a table between two others
pub part_between : {Y : Type 0} (table front part back : List Y) (n s l : ℕ) → take n table ≡ front ++ (part ++ back) → length front ≡ s → length part ≡ l → take l (drop s table) ≡ part
part_between table front part back n s l is e d =
    let size = sym (length-take n table) ∙ ap length is ∙ length-append front (part ++ back) in
    let rest = length-append part back in
    let total : s + (n - s) ≡ n = omega arith in
    sym (take-take l (n - s) (drop s table) (omega arith))
    ∙ ap (take l) (sym (drop-take s (n - s) table) ∙ ap (λ k. drop s (take k table)) total ∙ ap (drop s) is ∙ drop_at front (part ++ back) s e)
    ∙ take_at part back l d

-- an edit of the part between two others
module _ {Y : Type 0} (front part back : List Y) (p : ℕ) where
  regrouped : (a b : List Y) → (front ++ a) ++ (b ++ back) ≡ front ++ ((a ++ b) ++ back)
  regrouped a b = append_assoc front a (b ++ back) ∙ ap (λ (l : List Y). front ++ l) (sym (append_assoc a b back))

  before : p ≤ length part → take (length front + p) (front ++ (part ++ back)) ≡ front ++ take p part
  before le = take-append-add front (part ++ back) p ∙ ap (λ (l : List Y). front ++ l) (take-append-le p part back le)

  behind : (n : ℕ) → n ≤ length part → drop (length front + n) (front ++ (part ++ back)) ≡ drop n part ++ back
  behind n le = drop-append-add front (part ++ back) n ∙ drop-append-le n part back le

  pub inserted_between : (y : Y) → p ≤ length part → insert (front ++ (part ++ back)) (length front + p) y ≡ front ++ (insert part p y ++ back)
  inserted_between y le = ap₂ (λ a b. a ++ y ∷ b) (before le) (behind p le) ∙ regrouped (take p part) (y ∷ drop p part)

  pub removed_between : p < length part → remove (front ++ (part ++ back)) (length front + p) ≡ front ++ (remove part p ++ back)
  removed_between less =
      let next : suc (length front + p) ≡ length front + suc p = omega arith in
      ap₂ (λ a b. a ++ b) (before (omega arith)) (ap (λ n. drop n (front ++ (part ++ back))) next ∙ behind (suc p) (omega arith)) ∙ regrouped (take p part) (drop (suc p) part)

  pub set_between : (y : Y) → p < length part → set (front ++ (part ++ back)) (length front + p) y ≡ front ++ (set part p y ++ back)
  set_between y less =
      let left : length front + p - length front ≡ p = omega arith in
      set-append_right front (part ++ back) (length front) (length front + p) y refl (omega arith)
      ∙ ap (λ n. front ++ set (part ++ back) n y) left
      ∙ ap (λ (l : List Y). front ++ l) (set-append_left part back p y less)

-- an edit of a list, and of its rows
module _ {X Y : Type 0} (row : X → Y) (l : List X) (p : ℕ) where
  pub map_inserted : (x : X) → map row (insert l p x) ≡ insert (map row l) p (row x)
  map_inserted x = map-append row (take p l) (x ∷ drop p l) ∙ ap₂ (λ a b. a ++ row x ∷ b) (sym (take-map row p l)) (sym (drop-map row p l))

  pub map_removed : map row (remove l p) ≡ remove (map row l) p
  map_removed = map-append row (take p l) (drop (suc p) l) ∙ ap₂ (λ a b. a ++ b) (sym (take-map row p l)) (sym (drop-map row (suc p) l))
