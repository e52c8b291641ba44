-- When the calls of a listing are accepted.
use Rattle.std.proofs.Common.{◌≡◌, ℕ, suc, ◌<◌, ◌≤◌, List, [], length, Some, sym, ap, ◌∙◌, inl, inr, arith}
use Rattle.std.specs.List.{slice_get}
use Rattle.kinds.proofs.Provided.{none_some}
use Rattle.kinds.specs.Words.{Inside, Share}
use Rattle.search.specs.First.{Nowhere}
use Rattle.model.specs.Limits.{max_rules, max_list, max_blocks, max_properties, max_domains, max_interfaces}
use Rattle.model.specs.Packets.{Complete}
use Rattle.model.specs.Properties.{WellPlaced, BreaksFirst}
use Rattle.model.specs.Refusals.{RuleInside, PropertyInside}
use Rattle.model.specs.Shape.{Domain, Firewall, Joined}
use Rattle.model.specs.Tree.{Tree, Block, rules_of, count_rules, after}
use Rattle.model.specs.declared.answers.Refusal.TheVariants.{TooShort, NoSuch, BadInterface, Full, Outside, Overlap, Unjoined, SourceAstray, DestinationAstray, Unmatched, Misplaced, Breaks}
use Rattle.model.specs.declared.calls.Call.TheVariants.{Attach, Branch, Give, Place, Alter, Stand}
use Rattle.model.specs.declared.rules.Decision.{Decision}
use Rattle.model.specs.declared.rules.Packet.{Packet}
use Rattle.model.specs.declared.rules.Property.{Property}
use Rattle.model.specs.declared.rules.Rule.{Rule}
use Rattle.rebuild.specs.Again.{Accepted}

-- nothing stands in an empty list
none_in : {X B : Type 0} (xs : List X) (k : ℕ) (x : X) → xs ≡ [] → slice_get xs k ≡ Some x → B
none_in xs k x empty at = none_some (ap (λ ys. slice_get ys k) (sym empty) ∙ at)

module _ {A R V W : Type 0} (addr : A → V → Type 0) (rests : R → W → Type 0) (t : Tree A R) where
  module _ (d i j : ℕ) (w : Decision) (is : Domain t.shape d) (low-i : i < max_interfaces) (low-j : j < max_interfaces) (differ : i ≡ j → ⊥)
      (domains : suc (length t.shape.domains) < max_domains) (rules : count_rules t.lists < max_rules) where
    pub accepted_attach : Accepted addr rests t (Attach d i j w)
    accepted_attach l short TooShort h = short h
    accepted_attach l short NoSuch h = h is
    accepted_attach l short BadInterface (inl h) = omega arith
    accepted_attach l short BadInterface (inr (inl h)) = omega arith
    accepted_attach l short BadInterface (inr (inr h)) = differ h
    accepted_attach l short Full (inl h) = omega arith
    accepted_attach l short Full (inr h) = omega arith
    accepted_attach l short Outside h = h tt
    accepted_attach l short q h = h

  module _ (f i : ℕ) (is : Firewall t.shape f) (low : i < max_interfaces) (free : (d : ℕ) → Joined t.shape f d i → ⊥) (domains : suc (length t.shape.domains) < max_domains) where
    pub accepted_branch : Accepted addr rests t (Branch f i)
    accepted_branch l short TooShort h = short h
    accepted_branch l short NoSuch h = h is
    accepted_branch l short BadInterface (inl h) = omega arith
    accepted_branch l short BadInterface (inr (d, h)) = free d h
    accepted_branch l short Full h = omega arith
    accepted_branch l short Outside h = h tt
    accepted_branch l short q h = h

  module _ (none : t.properties ≡ []) where
    module _ (d : ℕ) (x : A) (not-0 : d ≡ 0 → ⊥) (is : Domain t.shape d) (room : length t.blocks < max_blocks) (inside : Inside (addr x) (addr t.addresses))
        (apart : Nowhere (λ (b : Block A). Share (addr b.region) (addr x)) t.blocks) where
      pub accepted_give : Accepted addr rests t (Give d x)
      accepted_give l short TooShort h = short h
      accepted_give l short NoSuch (inl h) = not-0 h
      accepted_give l short NoSuch (inr h) = h is
      accepted_give l short Full h = omega arith
      accepted_give l short Outside h = h inside
      accepted_give l short (Overlap b) (y, first) = apart b y first.here first.fit
      accepted_give l short (Misplaced n v) (p, first, astray) = none_in t.properties n p none first.here
      accepted_give l short q h = h

    module _ (f p : ℕ) (r : Rule A R) (is : Firewall t.shape f) (inside : RuleInside addr rests t r) where
      pub accepted_place : p ≤ length (rules_of t f) → length (rules_of t f) < max_list → count_rules t.lists < max_rules → Accepted addr rests t (Place f p r)
      accepted_place within list rules l short TooShort h = short h
      accepted_place within list rules l short NoSuch (inl h) = h is
      accepted_place within list rules l short NoSuch (inr h) = omega arith
      accepted_place within list rules l short Full (inl h) = omega arith
      accepted_place within list rules l short Full (inr h) = omega arith
      accepted_place within list rules l short Outside h = h inside
      accepted_place within list rules l short (Breaks n g k) (q, first, broken) = none_in t.properties n q none first.here
      accepted_place within list rules l short q h = h

      pub accepted_alter : p < length (rules_of t f) → Complete addr rests t (rules_of (after {V = V} {W = W} t (Alter f p r)) f) → Accepted addr rests t (Alter f p r)
      accepted_alter within complete l short TooShort h = short h
      accepted_alter within complete l short NoSuch (inl h) = h is
      accepted_alter within complete l short NoSuch (inr h) = omega arith
      accepted_alter within complete l short Outside h = h inside
      accepted_alter within complete l short (Unmatched k) h = complete k h.0 h.1
      accepted_alter within complete l short (Breaks n g k) (q, first, broken) = none_in t.properties n q none first.here
      accepted_alter within complete l short q h = h

  module _ (p : Property A R) (from : Domain t.shape p.from) (to : Domain t.shape p.to) (room : length t.properties < max_properties) (inside : PropertyInside addr rests t p)
      (placed : WellPlaced addr rests t p) (kept : (f : ℕ) (k : Packet V W) → BreaksFirst addr rests (after {V = V} {W = W} t (Stand p)) p f k → ⊥) where
    pub accepted_stand : Accepted addr rests t (Stand p)
    accepted_stand l short TooShort h = short h
    accepted_stand l short NoSuch (inl h) = h from
    accepted_stand l short NoSuch (inr h) = h to
    accepted_stand l short Full h = omega arith
    accepted_stand l short Outside h = h inside
    accepted_stand l short Unjoined (inl h) = placed.apart h
    accepted_stand l short Unjoined (inr (sort, h)) = h (placed.joined sort)
    accepted_stand l short (SourceAstray v) (sort, held, h) = h (placed.source sort v held)
    accepted_stand l short (DestinationAstray v) (held, h) = h (placed.destination v held)
    accepted_stand l short (Breaks n f k) (_, broken) = kept f k broken
    accepted_stand l short q h = h
