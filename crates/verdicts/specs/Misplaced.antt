-- The first standing property that the blocks misplace.
use Rattle.std.specs.Prelude.{Some, None, Option}
use Rattle.search.specs.First.{Nowhere}
use Rattle.model.specs.Properties.{IsSourceAstray}
use Rattle.model.specs.Refusals.{Astray, SomeAstray, Misplaces}
use Rattle.model.specs.Tree.{Tree}
use Rattle.model.specs.declared.rules.Property.{Property}
use Rattle.verdicts.specs.declared.misplaced.Astray.{Astray as AstrayOf}

module _ {A R V W : Type 0} (addr : A → V → Type 0) (rests : R → W → Type 0) where
  -- an address that is astray in the property's source, or nothing exactly where none is
  abbrev pub SourceFound : Tree A R → Property A R → Option V → Type 0
  SourceFound t p None = (a : V) → IsSourceAstray addr rests t p a → ⊥
  SourceFound t p (Some a) = IsSourceAstray addr rests t p a

  -- an address that is astray in the property, or nothing exactly where none is
  abbrev pub AstrayIn : Tree A R → Property A R → Option V → Type 0
  AstrayIn t p None = SomeAstray addr rests t p → ⊥
  AstrayIn t p (Some a) = Astray addr rests t p a

  -- the first property that is misplaced, with an address that shows it, or nothing exactly where none is
  abbrev pub MisplacedFound : Tree A R → Option (AstrayOf V) → Type 0
  MisplacedFound t None = Nowhere (SomeAstray addr rests t) t.properties
  MisplacedFound t (Some x) = Misplaces addr rests t x.property x.address
