-- What the checks of an offered property say together.
use Rattle.std.proofs.Common.{◌≡◌, IsErrAnd, Ok, Err, Result, sym, subst, subst₂}
use Rattle.model.specs.Properties.{IsSourceAstray}
use Rattle.model.specs.Refusals.{PropertyInside, Misjoined}
use Rattle.model.specs.Shape.{Shape}
use Rattle.model.specs.Tree.{Tree}
use Rattle.model.specs.declared.answers.Refusal.{Refusal}
use Rattle.model.specs.declared.answers.Refusal.TheVariants.{Outside, Unjoined}
use Rattle.model.specs.declared.rules.Property.{Property}
use Rattle.state.specs.Order.{RegionsInside}
use Rattle.offers.specs.Offers.{SourceChecked, DestinationChecked, Misfits, OfferChecked}
use Rattle.offers.specs.Offers.Misfits.{outside, unjoined, source, destination}

module _ {A R V W : Type 0} (addr : A → V → Type 0) (rests : R → W → Type 0) (t : Tree A R) (p : Property A R) where
  -- the three regions inside the wholes, as a product
  abbrev pub InWholes : A → R → Type 0
  InWholes a r = RegionsInside addr rests a r p.source p.destination p.rest

  -- the exit of a check
  exit : (q : Refusal V W) (r : Result (Unit {0}) (Refusal V W)) → IsErrAnd r (λ y. y ≡ q) → Misfits addr rests t p q → OfferChecked addr rests t p r
  exit q (Ok x) no-error misfit = absurd no-error
  exit q (Err y) as-q misfit = subst (Misfits addr rests t p) (sym as-q) misfit

  module _ (a : A) (r : R) (whole : a ≡ t.addresses) (rest : r ≡ t.rests) where
    to_inside : InWholes a r → PropertyInside addr rests t p
    to_inside h =
        let k = subst₂ InWholes whole rest h in
        record { source = k.0; destination = k.1.0; rest = k.1.1 }

    of_inside : PropertyInside addr rests t p → InWholes a r
    of_inside h = subst₂ InWholes (sym whole) (sym rest) (h.source, (h.destination, h.rest))

    module _ (shape : Shape) (same : shape ≡ t.shape) where
      pub outside_exit : (q : Refusal V W) (o : Result (Unit {0}) (Refusal V W)) → IsErrAnd o (λ y. y ≡ q) → (q ≡ Outside) × (InWholes a r → ⊥) → OfferChecked addr rests t p o
      outside_exit q o as-q cause = exit q o as-q (outside cause.0 (λ h. cause.1 (of_inside h)))

      module _ (inside : InWholes a r) where
        pub unjoined_exit : (q : Refusal V W) (o : Result (Unit {0}) (Refusal V W)) → IsErrAnd o (λ y. y ≡ q) → (q ≡ Unjoined) × Misjoined shape p → OfferChecked addr rests t p o
        unjoined_exit q o as-q cause = exit q o as-q (unjoined cause.0 (to_inside inside) (subst (λ z. Misjoined z p) same cause.1))

        module _ (joined : Misjoined shape p → ⊥) where
          joined_there : Misjoined t.shape p → ⊥
          joined_there h = joined (subst (λ z. Misjoined z p) (sym same) h)

          pub source_exit : (q : Refusal V W) (o : Result (Unit {0}) (Refusal V W)) → IsErrAnd o (λ y. y ≡ q) → SourceChecked addr rests t p (Err q) → OfferChecked addr rests t p o
          source_exit q o as-q (v, is, astray) = exit q o as-q (source v is (to_inside inside) joined_there astray)

          module _ (sources : (v : V) → IsSourceAstray addr rests t p v → ⊥) where
            pub last_check : (o : Result (Unit {0}) (Refusal V W)) → DestinationChecked addr rests t p o → OfferChecked addr rests t p o
            last_check (Ok x) none = record { inside = to_inside inside; joined = joined_there; source = sources; destination = none }
            last_check (Err q) (v, is, astray) = destination v is (to_inside inside) joined_there sources astray
