-- Which rule decides a packet.
use Rattle.std.specs.Prelude.{◌≡◌, ℕ, ◌<◌, List}
use Rattle.kinds.specs.Set.{set_holds}
use Rattle.kinds.specs.declared.pair.Pair.{Pair}
use Rattle.search.specs.First.{First, Nowhere}
use Rattle.model.specs.Limits.{max_interfaces}
use Rattle.model.specs.Tree.{Tree}
use Rattle.model.specs.declared.rules.Decision.{Decision}
use Rattle.model.specs.declared.rules.Decision.TheVariants.{Accept, Discard}
use Rattle.model.specs.declared.rules.Header.{Header}
use Rattle.model.specs.declared.rules.Packet.{Packet}
use Rattle.model.specs.declared.rules.Rule.{Rule}

-- a header on the interface i
abbrev pub entering : {V W : Type 0} → Header V W → ℕ → Packet V W
entering h i = record { interface = i; source = h.source; destination = h.destination; rest = h.rest }

-- a packet as the search has it, and back
abbrev pub value_of : {V W : Type 0} → Packet V W → Pair ℕ (Pair V (Pair V W))
value_of k = record { left = k.interface; right = record { left = k.source; right = record { left = k.destination; right = k.rest } } }

abbrev pub packet_of : {V W : Type 0} → Pair ℕ (Pair V (Pair V W)) → Packet V W
packet_of v = record { interface = v.left; source = v.right.left; destination = v.right.right.left; rest = v.right.right.right }

-- a decision's outcome number
abbrev pub decision_number : Decision → ℕ
decision_number Accept = 1
decision_number Discard = 0

-- `addr` and `rests` say which addresses, and which rests, a region holds
module _ {A R V W : Type 0} (addr : A → V → Type 0) (rests : R → W → Type 0) where
  pub record Matches (r : Rule A R) (p : Packet V W) : Type 0 where
    pub interface : set_holds r.interfaces p.interface
    pub source : addr r.source p.source
    pub destination : addr r.destination p.destination
    pub rest : rests r.rest p.rest

  -- the rule at position k is the first that matches p, and its decision is w
  abbrev pub Decided : List (Rule A R) → Packet V W → ℕ → Decision → Type 0
  Decided rs p k w = (r : Rule A R) × First (λ (q : Rule A R). Matches q p) rs k r × (r.decision ≡ w)

  abbrev pub Unmatched : List (Rule A R) → Packet V W → Type 0
  Unmatched rs p = Nowhere (λ (q : Rule A R). Matches q p) rs

  abbrev pub Accepted : List (Rule A R) → Packet V W → Type 0
  Accepted rs p = (k : ℕ) × Decided rs p k Accept

  abbrev pub Discarded : List (Rule A R) → Packet V W → Type 0
  Discarded rs p = (k : ℕ) × Decided rs p k Discard

  -- p is a packet of the whole, on any interface from 0 to 31
  pub record InWhole (t : Tree A R) (p : Packet V W) : Type 0 where
    pub interface : p.interface < max_interfaces
    pub source : addr t.addresses p.source
    pub destination : addr t.addresses p.destination
    pub rest : rests t.rests p.rest

  -- each packet of the whole is matched by some rule
  abbrev pub Complete : Tree A R → List (Rule A R) → Type 0
  Complete t rs = (p : Packet V W) → InWhole t p → Unmatched rs p → ⊥
