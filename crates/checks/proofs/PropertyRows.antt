-- What a table of properties tells, row by row, of the properties that it stands for.
use Rattle.std.proofs.Common.{◌≡◌, ℕ, ◌+◌, ◌≤◌, List, map, length, Some, None, Option, sym, refl, ap, ◌∙◌, subst, arith}
use mathlib.Core.Path.{subst₃}
use Rattle.std.proofs.lemmas.List.{length-map}
use Rattle.std.specs.List.{slice_get}
use Rattle.kinds.proofs.Provided.{none_some}
use Rattle.search.specs.First.{First, Nowhere, Before}
use Rattle.search.proofs.Positions.{before_more, before_all}
use Rattle.model.specs.declared.rules.Property.{Property}
use Rattle.checks.specs.Rows.{property_row, property_with, property_of}
use Rattle.checks.specs.declared.rows.PropertyRow.{PropertyRow}
use Rattle.search.proofs.Mapped.{nth_unmap}

module _ {A R X Y : Type 0} (pa : A → X) (pr : R → Y) (ra : X → Option A) (rr : Y → Option R)
    (reads-a : (x : A) → ra (pa x) ≡ Some x) (reads-r : (x : R) → rr (pr x) ≡ Some x) where
  -- a property's row reads back as the property
  pub property_reread : (p : Property A R) → property_of ra rr (property_row pa pr p) ≡ Some p
  property_reread p =
      subst₃ (λ s d r. property_with (property_row pa pr p) s d r ≡ Some p) (sym (reads-a p.source)) (sym (reads-a p.destination)) (sym (reads-r p.rest)) refl

  -- the table `ws` stands for the properties `ps`, some of which fit
  module _ (fits : Property A R → Type 0) (ws : List (PropertyRow X Y)) (ps : List (Property A R)) (is : ws ≡ map (property_row pa pr) ps) where
    -- the row at a place is that of the property there, and reads as it
    pub property_at : (k : ℕ) (w : PropertyRow X Y) → slice_get ws k ≡ Some w → (p : Property A R) × (slice_get ps k ≡ Some p) × (property_of ra rr w ≡ Some p)
    property_at k w here =
        let (p, at, same) = nth_unmap (property_row pa pr) ps k w (subst (λ l. slice_get l k ≡ Some w) is here) in
        (p, at, ap (property_of ra rr) same ∙ property_reread p)

    -- what a row reads as, stands at its place
    pub read_at : (k : ℕ) (w : PropertyRow X Y) (p : Property A R) → slice_get ws k ≡ Some w → property_of ra rr w ≡ Some p → slice_get ps k ≡ Some p
    read_at k w p here reads = let (q, at, is-q) = property_at k w here in cc

    -- past a row that reads as nothing: there is none
    pub past_nothing : (k : ℕ) (w : PropertyRow X Y) → slice_get ws k ≡ Some w → property_of ra rr w ≡ None → Before fits ps (k + 1)
    past_nothing k w here reads = let (q, at, is-q) = property_at k w here in none_some (sym reads ∙ is-q)

    -- past a property that does not fit
    pub past_property : (k : ℕ) (w : PropertyRow X Y) (p : Property A R) → slice_get ws k ≡ Some w → property_of ra rr w ≡ Some p → Before fits ps k → (fits p → ⊥) → Before fits ps (k + 1)
    past_property k w p here reads before not = before_more fits ps k p (read_at k w p here reads) before not

    -- the first that fits
    pub first_property : (k : ℕ) (w : PropertyRow X Y) (p : Property A R) → slice_get ws k ≡ Some w → property_of ra rr w ≡ Some p → Before fits ps k → fits p → First fits ps k p
    first_property k w p here reads before fit = record { here = read_at k w p here reads; fit = fit; before = before }

    -- past the last row
    pub no_property : (k : ℕ) → length ws ≤ k → Before fits ps k → Nowhere fits ps
    no_property k past before = before_all fits ps k (omega (arith, ap length is ∙ length-map ps (property_row pa pr))) before
