-- Packets of a property that a list decides against its sort.
use Rattle.std.specs.Prelude.{◌≡◌, ℕ, ◌<◌, List, Some, None, Option}
use Rattle.model.specs.Limits.{max_interfaces}
use Rattle.kinds.specs.declared.pair.Pair.{Pair}
use Rattle.search.specs.declared.answer.Found.{Found}
use Rattle.model.specs.Packets.{Decided, InWhole, Unmatched, Complete, packet_of}
use Rattle.model.specs.Tree.{Tree}
use Rattle.model.specs.declared.rules.Decision.{Decision}
use Rattle.model.specs.declared.rules.Decision.TheVariants.{Accept, Discard}
use Rattle.model.specs.declared.rules.Packet.{Packet}
use Rattle.model.specs.declared.rules.Property.{Property}
use Rattle.model.specs.declared.rules.Rule.{Rule}

-- the packet that a search found
abbrev pub packet_in : {V W : Type 0} → Option (Found (Pair ℕ (Pair V (Pair V W)))) → Option (Packet V W)
packet_in None = None
packet_in (Some f) = Some (packet_of f.value)

-- the decision that breaks a property of this sort
abbrev pub decided_against : Decision → Decision
decided_against Accept = Discard
decided_against Discard = Accept

module _ {A R V W : Type 0} (addr : A → V → Type 0) (rests : R → W → Type 0) where
  -- k is a packet of p on interface i, which the list decides against p's sort
  pub record BreaksList (rs : List (Rule A R)) (p : Property A R) (i : ℕ) (k : Packet V W) : Type 0 where
    pub source : addr p.source k.source
    pub destination : addr p.destination k.destination
    pub rest : rests p.rest k.rest
    pub entered : k.interface ≡ i
    pub real : i < max_interfaces
    pub against : (n : ℕ) × Decided addr rests rs k n (decided_against p.sort)

  -- a packet of the whole that no rule matches, or nothing exactly where the list is complete
  abbrev pub UnmatchedFound : Tree A R → List (Rule A R) → Option (Packet V W) → Type 0
  UnmatchedFound t rs None = Complete addr rests t rs
  UnmatchedFound t rs (Some k) = InWhole addr rests t k × Unmatched addr rests rs k

  -- a packet that breaks the list, or nothing exactly where there is none
  abbrev pub BreakFound : List (Rule A R) → Property A R → ℕ → Option (Packet V W) → Type 0
  BreakFound rs p i None = (k : Packet V W) → BreaksList rs p i k → ⊥
  BreakFound rs p i (Some k) = BreaksList rs p i k
