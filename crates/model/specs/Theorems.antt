-- What the definitions are known to mean: theorems about every tree that a lawful record gives.
use Rattle.std.specs.Prelude.{◌≡◌, ℕ, List, [], ◌∷◌, ◌++◌}
use Rattle.model.specs.Packets.{Decided, InWhole, Complete}
use Rattle.model.specs.Properties.{Of, Kept, BreaksAt}
use Rattle.model.specs.Record.{plain, then_tree, Right, Lawful}
use Rattle.model.specs.Refusals.{number, Applies}
use Rattle.model.specs.Shape.{Domain, Route, back}
use Rattle.model.specs.Tree.{Tree, with_rules}
use Rattle.model.specs.declared.answers.Lent.{Lent}
use Rattle.model.specs.declared.answers.Recorded.{Recorded}
use Rattle.model.specs.declared.answers.Refusal as refusal
use Rattle.model.specs.declared.answers.Refusal.{Refusal}
use Rattle.model.specs.declared.calls.Call.{Call}
use Rattle.model.specs.declared.path.Hop.{Hop}
use Rattle.model.specs.declared.rules.Decision.{Decision}
use Rattle.model.specs.declared.rules.Packet.{Packet}
use Rattle.model.specs.declared.rules.Property.{Property}
use Rattle.model.specs.declared.rules.Rule.{Rule}

-- of the values shown with a refusal, those that are not free: block, property, firewall and the interface entered by
abbrev pub settled_values : {V W : Type 0} → Refusal V W → List ℕ
settled_values refusal.TheVariants.TooShort = []
settled_values refusal.TheVariants.NoSuch = []
settled_values refusal.TheVariants.BadInterface = []
settled_values refusal.TheVariants.Full = []
settled_values refusal.TheVariants.Outside = []
settled_values (refusal.TheVariants.Overlap b) = b ∷ []
settled_values refusal.TheVariants.Unjoined = []
settled_values (refusal.TheVariants.SourceAstray a) = []
settled_values (refusal.TheVariants.DestinationAstray a) = []
settled_values (refusal.TheVariants.Unmatched k) = []
settled_values (refusal.TheVariants.Misplaced n a) = n ∷ []
settled_values (refusal.TheVariants.Breaks n f k) = n ∷ (f ∷ (k.interface ∷ []))

module _ {A R V W : Type 0} (addr : A → V → Type 0) (rests : R → W → Type 0) where
  -- any two domains have exactly one route, and the way back is it in reverse, with the other interfaces
  abbrev pub OneRoute : Type 0
  OneRoute = (a : A) (r : R) (es : List (Recorded A R V W)) → Lawful addr rests a r es → (u v : ℕ) → Domain (plain a r es).shape u → Domain (plain a r es).shape v
      → (hs : List Hop) × Route (plain a r es).shape u v hs × ((ks : List Hop) → Route (plain a r es).shape u v ks → ks ≡ hs) × Route (plain a r es).shape v u (back u hs)

  -- every address is of exactly one domain, which exists
  abbrev pub OneDomain : Type 0
  OneDomain = (a : A) (r : R) (es : List (Recorded A R V W)) → Lawful addr rests a r es → (v : V)
      → (d : ℕ) × Domain (plain a r es).shape d × Of addr rests (plain a r es) v d × ((e : ℕ) → Of addr rests (plain a r es) v e → e ≡ d)

  -- in a complete list every packet of the whole is decided, at exactly one position and in one way
  abbrev pub OneDecision : Type 0
  OneDecision = (t : Tree A R) (rs : List (Rule A R)) → Complete addr rests t rs → (p : Packet V W) → InWhole addr rests t p
      → (k : ℕ) × (w : Decision) × Decided addr rests rs p k w × ((j : ℕ) (x : Decision) → Decided addr rests rs p j x → (j ≡ k) × (x ≡ w))

  -- two refusals with one number, of one call, agree in what is not free
  abbrev pub OneRefusal : Type 0
  OneRefusal = (a : A) (r : R) (es : List (Recorded A R V W)) → Lawful addr rests a r es → (c : Call A R V W) (l : Lent) (p q : Refusal V W)
      → Applies addr rests (plain a r es) c l p → Applies addr rests (plain a r es) c l q → number p ≡ number q → settled_values p ≡ settled_values q

  -- a lawful record stays lawful when it is cut short
  abbrev pub CutShort : Type 0
  CutShort = (a : A) (r : R) (es fs : List (Recorded A R V W)) → Lawful addr rests a r (es ++ fs) → Lawful addr rests a r es

  -- a lawful record with one more entry, whose answer is right, is lawful, and its tree is the one after that entry
  abbrev pub OneRightMore : Type 0
  OneRightMore = (a : A) (r : R) (es : List (Recorded A R V W)) (e : Recorded A R V W) → Lawful addr rests a r es → Right addr rests (plain a r es) e.call e.lent e.answer
      → Lawful addr rests a r (es ++ (e ∷ [])) × (plain a r (es ++ (e ∷ [])) ≡ then_tree (plain a r es) e)

  -- another list for one firewall can break a property that was kept at that firewall only
  abbrev pub BreaksThereOnly : Type 0
  BreaksThereOnly = (t : Tree A R) (f : ℕ) (l : List (Rule A R)) (p : Property A R) → Kept addr rests t p → (g : ℕ) (k : Packet V W) → BreaksAt addr rests (with_rules t f l) p g k → g ≡ f
