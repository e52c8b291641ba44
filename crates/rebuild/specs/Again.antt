-- A listing builds its tree again.
use Rattle.std.specs.Prelude.{◌≡◌, ℕ, ◌+◌, ◌<◌, List, [], ◌∷◌, ◌++◌, length, Some}
use Rattle.std.specs.List.{slice_get}
use Rattle.kinds.specs.Words.{Inside}
use Rattle.model.specs.Limits.{max_domains, max_interfaces, max_list, max_blocks, max_rules, max_properties}
use Rattle.model.specs.Record.{plain, Lawful}
use Rattle.model.specs.Refusals.{IsTooShort, Applies, RuleInside, PropertyInside}
use Rattle.model.specs.Tree.{Tree, start, after}
use Rattle.model.specs.declared.answers.Lent.{Lent}
use Rattle.model.specs.declared.answers.Recorded.{Recorded}
use Rattle.model.specs.declared.answers.Refusal.{Refusal}
use Rattle.model.specs.declared.calls.Call.{Call}
use Rattle.model.specs.declared.calls.Call.TheVariants.{Attach, Branch, Give, Take, Place, Alter, Lift, Stand, Withdraw, Ask, Send}
use Rattle.rebuild.specs.Listing.{listing}

-- the tree after some calls, none of which is refused
abbrev pub built : {A R V W : Type 0} → Tree A R → List (Call A R V W) → Tree A R
built t [] = t
built t (c ∷ cs) = built (after t c) cs

module _ {A R V W : Type 0} (addr : A → V → Type 0) (rests : R → W → Type 0) where
  -- no refusal applies to a call, where the slices lent are long enough
  abbrev pub Accepted : Tree A R → Call A R V W → Type 0
  Accepted t c = (l : Lent) → (IsTooShort l → ⊥) → (q : Refusal V W) → Applies addr rests t c l q → ⊥

  -- a call as listings have it: its numbers are below the limits, and its regions inside the wholes a and r
  abbrev pub Modest : A → R → Call A R V W → Type 0
  Modest a r (Attach d i j w) = (d < max_domains) × (i < max_interfaces) × (j < max_interfaces)
  Modest a r (Branch f i) = (f < max_domains) × (i < max_interfaces)
  Modest a r (Give d x) = (d < max_domains) × Inside (addr x) (addr a)
  Modest a r (Take b) = ⊥
  Modest a r (Place f p q) = (f < max_domains) × (p < max_list) × RuleInside addr rests (start a r) q
  Modest a r (Alter f p q) = (f < max_domains) × (p < max_list) × RuleInside addr rests (start a r) q
  Modest a r (Lift f p) = ⊥
  Modest a r (Stand p) = (p.from < max_domains) × (p.to < max_domains) × PropertyInside addr rests (start a r) p
  Modest a r (Withdraw n) = ⊥
  Modest a r (Ask p) = ⊥
  Modest a r (Send h) = ⊥

  -- the calls of the tree's listing, made from domain 0 alone, are each accepted where they come, and build the tree
  pub record Rebuilds (t : Tree A R) : Type 0 where
    pub accepted : (before : List (Call A R V W)) (c : Call A R V W) (behind : List (Call A R V W)) → listing t ≡ before ++ (c ∷ behind) → Accepted (built (start t.addresses t.rests) before) c
    pub again : built {V = V} {W = W} (start t.addresses t.rests) (listing t) ≡ t
    pub modest : (k : ℕ) (c : Call A R V W) → slice_get (listing t) k ≡ Some c → Modest t.addresses t.rests c
    pub few : length (listing {V = V} {W = W} t) < max_domains + max_blocks + max_rules + max_properties

  -- every tree of a lawful record is built again by its listing
  abbrev pub ListingsRebuild : Type 0
  ListingsRebuild = (a : A) (r : R) (es : List (Recorded A R V W)) → Lawful addr rests a r es → Rebuilds (plain a r es)
