-- What is declared standing: where a property may be placed, and what breaks it.
use Rattle.std.specs.Prelude.{◌≡◌, ℕ, ◌⊎◌, List, Some}
use Rattle.std.specs.List.{slice_get}
use Rattle.kinds.specs.Words.{Inside}
use Rattle.search.specs.First.{First, Nowhere}
use Rattle.model.specs.Packets.{Accepted, Discarded}
use Rattle.model.specs.Shape.{Shape, Joined, Route}
use Rattle.model.specs.Tree.{Tree, Block, rules_of}
use Rattle.model.specs.declared.path.Hop.{Hop}
use Rattle.model.specs.declared.rules.Decision.{Decision}
use Rattle.model.specs.declared.rules.Decision.TheVariants.{Accept, Discard}
use Rattle.model.specs.declared.rules.Packet.{Packet}
use Rattle.model.specs.declared.rules.Property.{Property}
use Rattle.model.specs.declared.rules.Rule.{Rule}

-- u and v are joined to one firewall: one above it and one below, or both below
abbrev pub Neighbours : Shape → ℕ → ℕ → Type 0
Neighbours s u v = (f : ℕ) × (i : ℕ) × (j : ℕ) × Joined s f u i × Joined s f v j

module _ {A R V W : Type 0} (addr : A → V → Type 0) (rests : R → W → Type 0) where
  -- the address a is of domain d: a block of d holds it, or none does and d is 0
  abbrev pub Of : Tree A R → V → ℕ → Type 0
  Of t a d = ((k : ℕ) × (b : Block A) × (slice_get t.blocks k ≡ Some b) × addr b.region a × (b.domain ≡ d))
      ⊎ ((d ≡ 0) × Nowhere (λ (b : Block A). addr b.region a) t.blocks)

  -- a is in the source, or the destination, of the property but not of its domain there. The source of discard is free.
  abbrev pub IsSourceAstray : Tree A R → Property A R → V → Type 0
  IsSourceAstray t p a = (p.sort ≡ Accept) × addr p.source a × (Of t a p.from → ⊥)

  abbrev pub IsDestinationAstray : Tree A R → Property A R → V → Type 0
  IsDestinationAstray t p a = addr p.destination a × (Of t a p.to → ⊥)

  -- a property stands well: between two domains, its source (for accept) and its destination in the addresses of these
  pub record WellPlaced (t : Tree A R) (p : Property A R) : Type 0 where
    pub apart : p.from ≡ p.to → ⊥
    pub joined : p.sort ≡ Discard → Neighbours t.shape p.from p.to
    pub source : p.sort ≡ Accept → Inside (addr p.source) (λ (a : V). Of t a p.from)
    pub destination : Inside (addr p.destination) (λ (a : V). Of t a p.to)

  -- the list decides the packet against the property's sort: unmatched is neither
  abbrev pub Against : Decision → List (Rule A R) → Packet V W → Type 0
  Against Accept rs k = Discarded addr rests rs k
  Against Discard rs k = Accepted addr rests rs k

  -- the packet is one of the property's, on the interface that the hop enters by, and is decided there against its sort
  pub record BreaksIn (t : Tree A R) (p : Property A R) (h : Hop) (k : Packet V W) : Type 0 where
    pub source : addr p.source k.source
    pub destination : addr p.destination k.destination
    pub rest : rests p.rest k.rest
    pub entered : k.interface ≡ h.entered
    pub against : Against p.sort (rules_of t h.firewall) k

  -- some packet breaks it in this hop
  abbrev pub BrokenIn : Tree A R → Property A R → Hop → Type 0
  BrokenIn t p h = (k : Packet V W) × BreaksIn t p h k

  -- the packet breaks the property at firewall f, which is on the route between its domains
  pub record BreaksAt (t : Tree A R) (p : Property A R) (f : ℕ) (k : Packet V W) : Type 0 where
    pub hops : List Hop
    pub place : ℕ
    pub hop : Hop
    pub route : Route t.shape p.from p.to hops
    pub on : slice_get hops place ≡ Some hop
    pub named : hop.firewall ≡ f
    pub breaks : BreaksIn t p hop k

  -- no packet breaks it anywhere on its route
  abbrev pub Kept : Tree A R → Property A R → Type 0
  Kept t p = (f : ℕ) (k : Packet V W) → BreaksAt t p f k → ⊥

  -- f is the first firewall on the route at which any packet breaks it, and k does
  pub record BreaksFirst (t : Tree A R) (p : Property A R) (f : ℕ) (k : Packet V W) : Type 0 where
    pub hops : List Hop
    pub place : ℕ
    pub hop : Hop
    pub route : Route t.shape p.from p.to hops
    pub first : First (BrokenIn t p) hops place hop
    pub named : hop.firewall ≡ f
    pub breaks : BreaksIn t p hop k

  -- every standing property is well placed, and no packet breaks it
  abbrev pub Guarded : Tree A R → Type 0
  Guarded t = (n : ℕ) (p : Property A R) → slice_get t.properties n ≡ Some p → WellPlaced t p × Kept t p
