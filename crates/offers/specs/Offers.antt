-- A property that is offered, by stand or by ask.
use Rattle.std.specs.Prelude.{◌≡◌, ℕ, Ok, Err, Result}
use Rattle.model.specs.Properties.{IsSourceAstray, IsDestinationAstray, Kept, BreaksFirst}
use Rattle.model.specs.Refusals.{PropertyInside, Misjoined}
use Rattle.model.specs.Tree.{Tree}
use Rattle.model.specs.declared.answers.Refusal.{Refusal}
use Rattle.model.specs.declared.answers.Refusal.TheVariants.{Outside, Unjoined, SourceAstray, DestinationAstray, Breaks}
use Rattle.model.specs.declared.rules.Packet.{Packet}
use Rattle.model.specs.declared.rules.Property.{Property}

module _ {A R V W : Type 0} (addr : A → V → Type 0) (rests : R → W → Type 0) where
  -- what the search of the blocks says of an offered property
  abbrev pub SourceChecked : Tree A R → Property A R → Result (Unit {0}) (Refusal V W) → Type 0
  SourceChecked t p (Ok x) = (a : V) → IsSourceAstray addr rests t p a → ⊥
  SourceChecked t p (Err q) = (a : V) × (q ≡ SourceAstray a) × IsSourceAstray addr rests t p a

  abbrev pub DestinationChecked : Tree A R → Property A R → Result (Unit {0}) (Refusal V W) → Type 0
  DestinationChecked t p (Ok x) = (a : V) → IsDestinationAstray addr rests t p a → ⊥
  DestinationChecked t p (Err q) = (a : V) × (q ≡ DestinationAstray a) × IsDestinationAstray addr rests t p a

  -- the property lies in the wholes, is joined, and has its addresses where they belong
  pub record Fits (t : Tree A R) (p : Property A R) : Type 0 where
    pub inside : PropertyInside addr rests t p
    pub joined : Misjoined t.shape p → ⊥
    pub source : (a : V) → IsSourceAstray addr rests t p a → ⊥
    pub destination : (a : V) → IsDestinationAstray addr rests t p a → ⊥

  -- the first of the refusals 5, 7, 8 and 9 that applies to it
  pub data Misfits (t : Tree A R) (p : Property A R) (q : Refusal V W) : Type 0 where
    outside : q ≡ Outside → (PropertyInside addr rests t p → ⊥) → Misfits t p q
    unjoined : q ≡ Unjoined → PropertyInside addr rests t p → Misjoined t.shape p → Misfits t p q
    source : (a : V) → q ≡ SourceAstray a → PropertyInside addr rests t p → (Misjoined t.shape p → ⊥) → IsSourceAstray addr rests t p a → Misfits t p q
    destination : (a : V) → q ≡ DestinationAstray a → PropertyInside addr rests t p → (Misjoined t.shape p → ⊥) → ((b : V) → IsSourceAstray addr rests t p b → ⊥) → IsDestinationAstray addr rests t p a → Misfits t p q

  abbrev pub OfferChecked : Tree A R → Property A R → Result (Unit {0}) (Refusal V W) → Type 0
  OfferChecked t p (Ok x) = Fits t p
  OfferChecked t p (Err q) = Misfits t p q

  -- what the search of the lists says of it, with the number that it would have
  abbrev pub KeptChecked : Tree A R → Property A R → ℕ → Result (Unit {0}) (Refusal V W) → Type 0
  KeptChecked t p n (Ok x) = Kept addr rests t p
  KeptChecked t p n (Err q) = (f : ℕ) × (k : Packet V W) × (q ≡ Breaks n f k) × BreaksFirst addr rests t p f k
