-- The guard's record, and when it is lawful.
use Rattle.std.specs.Prelude.{◌≡◌, ℕ, suc, ◌<◌, List, [], ◌∷◌, length, Some, None, Option, MatchOption}
use Rattle.search.specs.First.{First, Nowhere}
use Rattle.model.specs.Packets.{Decided, Discarded, entering}
use Rattle.model.specs.Properties.{Of, Kept, BreaksFirst, Guarded}
use Rattle.model.specs.Refusals.{number, Applies}
use Rattle.model.specs.Shape.{Route}
use Rattle.model.specs.Tree.{Tree, start, after, rules_of}
use Rattle.model.specs.declared.answers.Answer as answer
use Rattle.model.specs.declared.answers.Answer.{Answer}
use Rattle.model.specs.declared.answers.Lent.{Lent}
use Rattle.model.specs.declared.answers.Recorded.{Recorded}
use Rattle.model.specs.declared.answers.Refusal.{Refusal}
use Rattle.model.specs.declared.calls.Call.{Call}
use Rattle.model.specs.declared.calls.Call.TheVariants.{Attach, Branch, Give, Take, Place, Alter, Lift, Stand, Withdraw, Ask, Send}
use Rattle.model.specs.declared.path.Hop.{Hop}
use Rattle.model.specs.declared.rules.Decision.TheVariants.{Discard}
use Rattle.model.specs.declared.rules.Header.{Header}
use Rattle.model.specs.declared.rules.Property.{Property}

-- the refusal that an answer is, if it is one
abbrev pub refused : {V W : Type 0} → Answer V W → Option (Refusal V W)
refused answer.TheVariants.Done = None
refused (answer.TheVariants.Attached f d) = None
refused (answer.TheVariants.Branched d) = None
refused answer.TheVariants.Kept = None
refused (answer.TheVariants.Broken f k) = None
refused answer.TheVariants.Passed = None
refused (answer.TheVariants.Stopped f p) = None
refused (answer.TheVariants.Refused r) = Some r

module _ {A R V W : Type 0} (addr : A → V → Type 0) (rests : R → W → Type 0) where
  -- kept exactly where no packet breaks the property; broken at the first firewall of the route at which one does
  abbrev pub Asked : Tree A R → Property A R → Answer V W → Type 0
  Asked t p answer.TheVariants.Done = ⊥
  Asked t p (answer.TheVariants.Attached f d) = ⊥
  Asked t p (answer.TheVariants.Branched d) = ⊥
  Asked t p answer.TheVariants.Kept = Kept addr rests t p
  Asked t p (answer.TheVariants.Broken f k) = BreaksFirst addr rests t p f k
  Asked t p answer.TheVariants.Passed = ⊥
  Asked t p (answer.TheVariants.Stopped f k) = ⊥
  Asked t p (answer.TheVariants.Refused r) = ⊥

  -- the hops are the way of the header, from the domain of its source to that of its destination
  pub record Way (t : Tree A R) (h : Header V W) (hs : List Hop) : Type 0 where
    pub u : ℕ
    pub v : ℕ
    pub from : Of addr rests t h.source u
    pub to : Of addr rests t h.destination v
    pub route : Route t.shape u v hs

  -- the firewall of this hop discards the header
  abbrev pub Stops : Tree A R → Header V W → Hop → Type 0
  Stops t h p = Discarded addr rests (rules_of t p.firewall) (entering h p.entered)

  -- passed where no firewall on the way discards; stopped at the first that does, by the rule at position k
  abbrev pub Sent : Tree A R → Header V W → Answer V W → Type 0
  Sent t h answer.TheVariants.Done = ⊥
  Sent t h (answer.TheVariants.Attached f d) = ⊥
  Sent t h (answer.TheVariants.Branched d) = ⊥
  Sent t h answer.TheVariants.Kept = ⊥
  Sent t h (answer.TheVariants.Broken f k) = ⊥
  Sent t h answer.TheVariants.Passed = (hs : List Hop) × Way t h hs × Nowhere (Stops t h) hs
  Sent t h (answer.TheVariants.Stopped f k) = (hs : List Hop) × (n : ℕ) × (p : Hop) × Way t h hs × First (Stops t h) hs n p × (p.firewall ≡ f)
      × Decided addr rests (rules_of t f) (entering h p.entered) k Discard
  Sent t h (answer.TheVariants.Refused r) = ⊥

  -- what a call that is not refused answers
  abbrev pub Said : Tree A R → Call A R V W → Answer V W → Type 0
  Said t (Attach d i j w) a = a ≡ answer.TheVariants.Attached (length t.shape.firewalls) (suc (length t.shape.domains))
  Said t (Branch f i) a = a ≡ answer.TheVariants.Branched (suc (length t.shape.domains))
  Said t (Give d x) a = a ≡ answer.TheVariants.Done
  Said t (Take b) a = a ≡ answer.TheVariants.Done
  Said t (Place f p r) a = a ≡ answer.TheVariants.Done
  Said t (Alter f p r) a = a ≡ answer.TheVariants.Done
  Said t (Lift f p) a = a ≡ answer.TheVariants.Done
  Said t (Stand p) a = a ≡ answer.TheVariants.Done
  Said t (Withdraw n) a = a ≡ answer.TheVariants.Done
  Said t (Ask p) a = Asked t p a
  Said t (Send h) a = Sent t h a

  -- the right answer to a call in a tree, with these lengths lent: the refusal with the smallest number that applies,
  -- or, where none does, what the call answers
  abbrev pub Right : Tree A R → Call A R V W → Lent → Answer V W → Type 0
  Right t c l a = MatchOption (refused a)
      (((r : Refusal V W) → Applies addr rests t c l r → ⊥) × Said t c a)
      (λ r. Applies addr rests t c l r × ((q : Refusal V W) → number q < number r → Applies addr rests t c l q → ⊥))

-- the tree after an entry of a record: of its answer, only whether it refuses counts
abbrev pub unless : {A R V W : Type 0} → Option (Refusal V W) → Tree A R → Tree A R → Tree A R
unless None t new = new
unless (Some r) t new = t

abbrev pub then_tree : {A R V W : Type 0} → Tree A R → Recorded A R V W → Tree A R
then_tree t e = unless (refused e.answer) t (after t e.call)

abbrev pub tree_from : {A R V W : Type 0} → Tree A R → List (Recorded A R V W) → Tree A R
tree_from t [] = t
tree_from t (e ∷ es) = tree_from (then_tree t e) es

-- the plain tree of a record: made of the two wholes, changed by one call after the other
abbrev pub plain : {A R V W : Type 0} → A → R → List (Recorded A R V W) → Tree A R
plain a r es = tree_from (start a r) es

module _ {A R V W : Type 0} (addr : A → V → Type 0) (rests : R → W → Type 0) where
  abbrev pub LawfulFrom : Tree A R → List (Recorded A R V W) → Type 0
  LawfulFrom t [] = Guarded addr rests t
  LawfulFrom t (e ∷ es) = Guarded addr rests t × Right addr rests t e.call e.lent e.answer × LawfulFrom (then_tree t e) es

  -- each answer is right in the plain tree just before it, and after each entry, and at the start, what stands is guarded
  abbrev pub Lawful : A → R → List (Recorded A R V W) → Type 0
  Lawful a r es = LawfulFrom (start a r) es
