-- Addresses astray in a property, from those of its source and of its destination.
use Rattle.std.proofs.Common.{◌≡◌, ℕ, Some, None, Option, sym, ◌∙◌, inl, inr, arith}
use Rattle.model.specs.Properties.{IsSourceAstray}
use Rattle.model.specs.Tree.{Tree}
use Rattle.model.specs.declared.rules.Decision.TheVariants.{Accept, Discard}
use Rattle.model.specs.declared.rules.Property.{Property}
use Rattle.checks.specs.Addresses.{AstrayFound}
use Rattle.verdicts.specs.Misplaced.{SourceFound, AstrayIn}

module _ {A R V W : Type 0} (addr : A → V → Type 0) (rests : R → W → Type 0) (t : Tree A R) (p : Property A R) where
  pub accept_source : p.sort ≡ Accept → (r : Option V) → AstrayFound addr rests t p.source p.from r → SourceFound addr rests t p r
  accept_source sort None within = λ a astray. astray.2 (within a astray.1)
  accept_source sort (Some a) found = (sort, found.0, found.1)

  pub discard_source : p.sort ≡ Discard → (a : V) → IsSourceAstray addr rests t p a → ⊥
  discard_source sort a astray = let differ = sym sort ∙ astray.0 in let z : ◌≡◌ {A = ℕ} 0 1 = cc in omega arith

  -- no address is astray in the source
  pub then_destination : ((a : V) → IsSourceAstray addr rests t p a → ⊥) → (r : Option V) → AstrayFound addr rests t p.destination p.to r → AstrayIn addr rests t p r
  then_destination none None within = λ some. elim some.1 [
    | inl astray ↦ none some.0 astray
    | inr astray ↦ astray.1.1 (within some.0 astray.1.0)
  ]
  then_destination none (Some a) found = inr (none, found)
