-- The first standing property that another list for one firewall breaks.
use Rattle.std.specs.Prelude.{ℕ, List, Some, None, Option}
use Rattle.search.specs.First.{Nowhere}
use Rattle.model.specs.Properties.{BreaksFirst}
use Rattle.model.specs.Refusals.{Broken, BreaksOne}
use Rattle.model.specs.Tree.{Tree, with_rules}
use Rattle.model.specs.declared.rules.Packet.{Packet}
use Rattle.model.specs.declared.rules.Property.{Property}
use Rattle.model.specs.declared.rules.Rule.{Rule}
use Rattle.verdicts.specs.declared.edited.Broken.{Broken as BrokenOf}

module _ {A R V W : Type 0} (addr : A → V → Type 0) (rests : R → W → Type 0) where
  -- a packet that breaks the property first at f, once f has the list rs, or nothing exactly where none breaks it then
  abbrev pub BreakAtFound : Tree A R → ℕ → List (Rule A R) → Property A R → Option (Packet V W) → Type 0
  BreakAtFound t f rs p None = Broken addr rests (with_rules t f rs) p → ⊥
  BreakAtFound t f rs p (Some k) = BreaksFirst addr rests (with_rules t f rs) p f k

  -- the first property that is broken once f has the list rs, with a packet that shows it, or nothing exactly where none is
  abbrev pub EditFound : Tree A R → ℕ → List (Rule A R) → Option (BrokenOf V W) → Type 0
  EditFound t f rs None = Nowhere (Broken addr rests (with_rules t f rs)) t.properties
  EditFound t f rs (Some b) = BreaksOne addr rests (with_rules t f rs) b.property f b.packet
