-- What is read from the rows of a table that stands for a list.
use Rattle.std.proofs.Common.{◌≡◌, ℕ, List, map, Some, None, Option, sym, refl, ap, ◌∙◌, subst}
use Rattle.std.specs.List.{slice_get}
use Rattle.std.specs.Option.{option_map}
use Rattle.std.proofs.lemmas.Option.{slice_get-map}
use Rattle.kinds.proofs.Provided.{none_some}
use Rattle.search.proofs.Mapped.{nth_unmap}

unmapped : {X Y : Type 0} (f : X → Y) (o : Option X) → None ≡ option_map f o → None ≡ o
unmapped f None none = refl
unmapped f (Some x) none = none_some none

module _ {X Y : Type 0} (row : X → Y) (xs : List X) (ys : List Y) (is : ys ≡ map row xs) (k : ℕ) where
  -- o was read from the row y, which is at place k
  pub row_read : (y : Y) → Some y ≡ slice_get ys k → (o : Option X) → ((x : X) → y ≡ row x → o ≡ Some x) → o ≡ slice_get xs k
  row_read y here o reads =
      let (x, at, same) = nth_unmap row xs k y (subst (λ l. slice_get l k ≡ Some y) is (sym here)) in
      reads x same ∙ sym at

  -- there is no row at place k
  pub row_past : None ≡ slice_get ys k → None ≡ slice_get xs k
  row_past none = unmapped row (slice_get xs k) (none ∙ ap (λ l. slice_get l k) is ∙ slice_get-map row xs k)
