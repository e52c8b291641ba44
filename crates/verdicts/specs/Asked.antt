-- The first break of a property on its route.
use Rattle.std.specs.Prelude.{Some, None, Option}
use Rattle.model.specs.Properties.{BreaksIn, BrokenIn, Kept, BreaksFirst}
use Rattle.model.specs.Tree.{Tree}
use Rattle.model.specs.declared.path.Hop.{Hop}
use Rattle.model.specs.declared.rules.Packet.{Packet}
use Rattle.model.specs.declared.rules.Property.{Property}
use Rattle.verdicts.specs.declared.route.Break.{Break}

module _ {A R V W : Type 0} (addr : A → V → Type 0) (rests : R → W → Type 0) where
  -- a packet that breaks the property in this hop, or nothing exactly where none does
  abbrev pub HopFound : Tree A R → Property A R → Hop → Option (Packet V W) → Type 0
  HopFound t p h None = BrokenIn addr rests t p h → ⊥
  HopFound t p h (Some k) = BreaksIn addr rests t p h k

  -- the first firewall on the route at which a packet breaks the property, with such a packet, or nothing exactly where
  -- it is kept
  abbrev pub AskedFound : Tree A R → Property A R → Option (Break V W) → Type 0
  AskedFound t p None = Kept addr rests t p
  AskedFound t p (Some b) = BreaksFirst addr rests t p b.firewall b.packet
