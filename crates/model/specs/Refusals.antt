-- The refusal table: when a call is refused, under which number, and what is shown with it.
use Rattle.std.specs.Prelude.{◌≡◌, ℕ, suc, ◌+◌, ◌<◌, ◌≤◌, ◌⊎◌, length, Some, None, Option, MatchOption}
use Rattle.kinds.specs.Words.{Inside, Share}
use Rattle.search.specs.First.{First}
use Rattle.model.specs.Limits.{max_rules, max_list, max_blocks, max_properties, max_domains, max_interfaces, min_packet_frames, min_address_frames}
use Rattle.model.specs.Packets.{InWhole, Unmatched}
use Rattle.model.specs.Properties.{Neighbours, IsSourceAstray, IsDestinationAstray, BreaksFirst}
use Rattle.model.specs.Shape.{Shape, Domain, Firewall, Joined}
use Rattle.model.specs.Tree.{Tree, Block, rules_of, count_rules, after}
use Rattle.model.specs.declared.answers.Lent.{Lent}
use Rattle.model.specs.declared.answers.Refusal as refusal
use Rattle.model.specs.declared.answers.Refusal.{Refusal}
use Rattle.model.specs.declared.calls.Call.{Call}
use Rattle.model.specs.declared.calls.Call.TheVariants.{Attach, Branch, Give, Take, Place, Alter, Lift, Stand, Withdraw, Ask, Send}
use Rattle.model.specs.declared.rules.Decision.TheVariants.{Discard}
use Rattle.model.specs.declared.rules.Packet.{Packet}
use Rattle.model.specs.declared.rules.Property.{Property}
use Rattle.model.specs.declared.rules.Rule.{Rule}

-- the number of each refusal
abbrev pub number : {V W : Type 0} → Refusal V W → ℕ
number refusal.TheVariants.TooShort = 1
number refusal.TheVariants.NoSuch = 2
number refusal.TheVariants.BadInterface = 3
number refusal.TheVariants.Full = 4
number refusal.TheVariants.Outside = 5
number (refusal.TheVariants.Overlap b) = 6
number refusal.TheVariants.Unjoined = 7
number (refusal.TheVariants.SourceAstray a) = 8
number (refusal.TheVariants.DestinationAstray a) = 9
number (refusal.TheVariants.Unmatched k) = 10
number (refusal.TheVariants.Misplaced n a) = 11
number (refusal.TheVariants.Breaks n f k) = 12

-- 1: a slice lent is too short
abbrev pub IsTooShort : Lent → Type 0
IsTooShort l = (l.rules < max_rules) ⊎ ((l.blocks < max_blocks) ⊎ ((l.properties < max_properties)
    ⊎ ((l.packet_frames < min_packet_frames) ⊎ (l.address_frames < min_address_frames))))

-- the property that stand or ask offers
abbrev pub offered : {A R V W : Type 0} → Call A R V W → Option (Property A R)
offered (Attach d i j w) = None
offered (Branch f i) = None
offered (Give d x) = None
offered (Take b) = None
offered (Place f p r) = None
offered (Alter f p r) = None
offered (Lift f p) = None
offered (Stand p) = Some p
offered (Withdraw n) = None
offered (Ask p) = Some p
offered (Send h) = None

-- the region that give offers
abbrev pub given : {A R V W : Type 0} → Call A R V W → Option A
given (Attach d i j w) = None
given (Branch f i) = None
given (Give d x) = Some x
given (Take b) = None
given (Place f p r) = None
given (Alter f p r) = None
given (Lift f p) = None
given (Stand p) = None
given (Withdraw n) = None
given (Ask p) = None
given (Send h) = None

-- the firewall whose list loses a rule, by alter or lift
abbrev pub thinned : {A R V W : Type 0} → Call A R V W → Option ℕ
thinned (Attach d i j w) = None
thinned (Branch f i) = None
thinned (Give d x) = None
thinned (Take b) = None
thinned (Place f p r) = None
thinned (Alter f p r) = Some f
thinned (Lift f p) = Some f
thinned (Stand p) = None
thinned (Withdraw n) = None
thinned (Ask p) = None
thinned (Send h) = None

abbrev pub NoDomain : {A R : Type 0} → Tree A R → ℕ → Type 0
NoDomain t d = Domain t.shape d → ⊥

abbrev pub NoFirewall : {A R : Type 0} → Tree A R → ℕ → Type 0
NoFirewall t f = Firewall t.shape f → ⊥

-- one domain more, domain 0 counted, would be too many
abbrev pub FullOfDomains : {A R : Type 0} → Tree A R → Type 0
FullOfDomains t = max_domains < suc (length t.shape.domains) + 1

-- one rule more in all would be too many
abbrev pub FullOfRules : {A R : Type 0} → Tree A R → Type 0
FullOfRules t = max_rules < count_rules t.lists + 1

-- the property goes from a domain to itself, or is a discard between two that no firewall joins
abbrev pub Misjoined : {A R : Type 0} → Shape → Property A R → Type 0
Misjoined s p = (p.from ≡ p.to) ⊎ ((p.sort ≡ Discard) × (Neighbours s p.from p.to → ⊥))

module _ {A R V W : Type 0} where
  -- 2: a domain, firewall, block, property or position that is not there, or a block for domain 0
  abbrev pub NamesNoSuch : Tree A R → Call A R V W → Type 0
  NamesNoSuch t (Attach d i j w) = NoDomain t d
  NamesNoSuch t (Branch f i) = NoFirewall t f
  NamesNoSuch t (Give d x) = (d ≡ 0) ⊎ NoDomain t d
  NamesNoSuch t (Take b) = length t.blocks ≤ b
  NamesNoSuch t (Place f p r) = NoFirewall t f ⊎ (length (rules_of t f) < p)
  NamesNoSuch t (Alter f p r) = NoFirewall t f ⊎ (length (rules_of t f) ≤ p)
  NamesNoSuch t (Lift f p) = NoFirewall t f ⊎ (length (rules_of t f) ≤ p)
  NamesNoSuch t (Stand p) = NoDomain t p.from ⊎ NoDomain t p.to
  NamesNoSuch t (Withdraw n) = length t.properties ≤ n
  NamesNoSuch t (Ask p) = NoDomain t p.from ⊎ NoDomain t p.to
  NamesNoSuch t (Send h) = ⊥

  -- 3: a number too high for an interface; or one that the firewall of a branch uses; or twice the same in an attach
  abbrev pub HasBadInterface : Tree A R → Call A R V W → Type 0
  HasBadInterface t (Attach d i j w) = (max_interfaces ≤ i) ⊎ ((max_interfaces ≤ j) ⊎ (i ≡ j))
  HasBadInterface t (Branch f i) = (max_interfaces ≤ i) ⊎ ((d : ℕ) × Joined t.shape f d i)
  HasBadInterface t (Give d x) = ⊥
  HasBadInterface t (Take b) = ⊥
  HasBadInterface t (Place f p r) = ⊥
  HasBadInterface t (Alter f p r) = ⊥
  HasBadInterface t (Lift f p) = ⊥
  HasBadInterface t (Stand p) = ⊥
  HasBadInterface t (Withdraw n) = ⊥
  HasBadInterface t (Ask p) = ⊥
  HasBadInterface t (Send h) = ⊥

  -- 4: the call would make too many
  abbrev pub Full : Tree A R → Call A R V W → Type 0
  Full t (Attach d i j w) = FullOfDomains t ⊎ FullOfRules t
  Full t (Branch f i) = FullOfDomains t
  Full t (Give d x) = max_blocks < length t.blocks + 1
  Full t (Take b) = ⊥
  Full t (Place f p r) = (max_list < length (rules_of t f) + 1) ⊎ FullOfRules t
  Full t (Alter f p r) = ⊥
  Full t (Lift f p) = ⊥
  Full t (Stand p) = max_properties < length t.properties + 1
  Full t (Withdraw n) = ⊥
  Full t (Ask p) = ⊥
  Full t (Send h) = ⊥

module _ {A R V W : Type 0} (addr : A → V → Type 0) (rests : R → W → Type 0) where
  pub record RuleInside (t : Tree A R) (r : Rule A R) : Type 0 where
    pub source : Inside (addr r.source) (addr t.addresses)
    pub destination : Inside (addr r.destination) (addr t.addresses)
    pub rest : Inside (rests r.rest) (rests t.rests)

  pub record PropertyInside (t : Tree A R) (p : Property A R) : Type 0 where
    pub source : Inside (addr p.source) (addr t.addresses)
    pub destination : Inside (addr p.destination) (addr t.addresses)
    pub rest : Inside (rests p.rest) (rests t.rests)

  -- every region, or packet, of the call is inside the whole
  abbrev pub AllInside : Tree A R → Call A R V W → Type 0
  AllInside t (Attach d i j w) = Unit {0}
  AllInside t (Branch f i) = Unit {0}
  AllInside t (Give d x) = Inside (addr x) (addr t.addresses)
  AllInside t (Take b) = Unit {0}
  AllInside t (Place f p r) = RuleInside t r
  AllInside t (Alter f p r) = RuleInside t r
  AllInside t (Lift f p) = Unit {0}
  AllInside t (Stand p) = PropertyInside t p
  AllInside t (Withdraw n) = Unit {0}
  AllInside t (Ask p) = PropertyInside t p
  AllInside t (Send h) = addr t.addresses h.source × addr t.addresses h.destination × rests t.rests h.rest

  -- 6: b is the first block that shares an address with the region given
  abbrev pub Overlaps : Tree A R → Call A R V W → ℕ → Type 0
  Overlaps t c b = MatchOption (given c) ⊥ (λ x. (y : Block A) × First (λ (z : Block A). Share (addr z.region) (addr x)) t.blocks b y)

  -- 10: the edited list would leave this packet of the whole unmatched
  abbrev pub LeavesUnmatched : Tree A R → Call A R V W → Packet V W → Type 0
  LeavesUnmatched t c k = MatchOption (thinned c) ⊥ (λ f. InWhole addr rests t k × Unmatched addr rests (rules_of (after t c) f) k)

  -- the address is astray in the property: in its source if any address there is, else in its destination
  abbrev pub Astray : Tree A R → Property A R → V → Type 0
  Astray t p a = IsSourceAstray addr rests t p a ⊎ (((b : V) → IsSourceAstray addr rests t p b → ⊥) × IsDestinationAstray addr rests t p a)

  abbrev pub SomeAstray : Tree A R → Property A R → Type 0
  SomeAstray t p = (a : V) × Astray t p a

  -- n is the first property that the tree would have misplaced, and a shows it
  abbrev pub Misplaces : Tree A R → ℕ → V → Type 0
  Misplaces t n a = (p : Property A R) × First (SomeAstray t) t.properties n p × Astray t p a

  -- 11, for give and take, in the tree as the call would have left it
  abbrev pub WouldMisplace : Tree A R → Call A R V W → ℕ → V → Type 0
  WouldMisplace t (Attach d i j w) n a = ⊥
  WouldMisplace t (Branch f i) n a = ⊥
  WouldMisplace t (Give d x) n a = Misplaces (after {V = V} {W = W} t (Give d x)) n a
  WouldMisplace t (Take b) n a = Misplaces (after {V = V} {W = W} t (Take b)) n a
  WouldMisplace t (Place f p r) n a = ⊥
  WouldMisplace t (Alter f p r) n a = ⊥
  WouldMisplace t (Lift f p) n a = ⊥
  WouldMisplace t (Stand p) n a = ⊥
  WouldMisplace t (Withdraw m) n a = ⊥
  WouldMisplace t (Ask p) n a = ⊥
  WouldMisplace t (Send h) n a = ⊥

  -- some packet breaks the property somewhere
  abbrev pub Broken : Tree A R → Property A R → Type 0
  Broken t p = (f : ℕ) × (k : Packet V W) × BreaksFirst addr rests t p f k

  -- n is the first property that would be broken in the tree, first at f, by k
  abbrev pub BreaksOne : Tree A R → ℕ → ℕ → Packet V W → Type 0
  BreaksOne t n f k = (p : Property A R) × First (Broken t) t.properties n p × BreaksFirst addr rests t p f k

  -- 12: an edit of a list would break a standing property; stand offers a broken one, under the present count
  abbrev pub WouldBreak : Tree A R → Call A R V W → ℕ → ℕ → Packet V W → Type 0
  WouldBreak t (Attach d i j w) n f k = ⊥
  WouldBreak t (Branch g i) n f k = ⊥
  WouldBreak t (Give d x) n f k = ⊥
  WouldBreak t (Take b) n f k = ⊥
  WouldBreak t (Place g p r) n f k = BreaksOne (after {V = V} {W = W} t (Place g p r)) n f k
  WouldBreak t (Alter g p r) n f k = BreaksOne (after {V = V} {W = W} t (Alter g p r)) n f k
  WouldBreak t (Lift g p) n f k = BreaksOne (after {V = V} {W = W} t (Lift g p)) n f k
  WouldBreak t (Stand p) n f k = (n ≡ length t.properties) × BreaksFirst addr rests (after {V = V} {W = W} t (Stand p)) p f k
  WouldBreak t (Withdraw m) n f k = ⊥
  WouldBreak t (Ask p) n f k = ⊥
  WouldBreak t (Send h) n f k = ⊥

  -- the refusal, with the values that it shows, is one that the table has for the call in the tree
  abbrev pub Applies : Tree A R → Call A R V W → Lent → Refusal V W → Type 0
  Applies t c l refusal.TheVariants.TooShort = IsTooShort l
  Applies t c l refusal.TheVariants.NoSuch = NamesNoSuch t c
  Applies t c l refusal.TheVariants.BadInterface = HasBadInterface t c
  Applies t c l refusal.TheVariants.Full = Full t c
  Applies t c l refusal.TheVariants.Outside = AllInside t c → ⊥
  Applies t c l (refusal.TheVariants.Overlap b) = Overlaps t c b
  Applies t c l refusal.TheVariants.Unjoined = MatchOption (offered c) ⊥ (λ p. Misjoined t.shape p)
  Applies t c l (refusal.TheVariants.SourceAstray a) = MatchOption (offered c) ⊥ (λ p. IsSourceAstray addr rests t p a)
  Applies t c l (refusal.TheVariants.DestinationAstray a) = MatchOption (offered c) ⊥ (λ p. IsDestinationAstray addr rests t p a)
  Applies t c l (refusal.TheVariants.Unmatched k) = LeavesUnmatched t c k
  Applies t c l (refusal.TheVariants.Misplaced n a) = WouldMisplace t c n a
  Applies t c l (refusal.TheVariants.Breaks n f k) = WouldBreak t c n f k
