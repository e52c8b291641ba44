-- An edit of one firewall's list: what is checked before it is made, and of the list as it would stand.
use Rattle.std.specs.Prelude.{◌≡◌, ℕ, ◌<◌, ◌⊎◌, List, map, length, take, IfOk, Some, Ok, Err, Result}
use Rattle.std.specs.List.{slice_get}
use Rattle.kinds.specs.declared.kind.Kind.{Ghosts}
use Rattle.search.specs.First.{Nowhere}
use Rattle.model.specs.Limits.{max_list, max_rules}
use Rattle.model.specs.Packets.{InWhole, Unmatched, Complete}
use Rattle.model.specs.Properties.{Kept}
use Rattle.model.specs.Refusals.{Broken, BreaksOne, IsTooShort}
use Rattle.model.specs.Shape.{Firewall}
use Rattle.model.specs.Tree.{Tree, with_rules}
use Rattle.model.specs.declared.answers.Lent.{Lent}
use Rattle.model.specs.declared.answers.Refusal.{Refusal}
use Rattle.model.specs.declared.answers.Refusal.TheVariants.{TooShort, Unmatched as LeftUnmatched, Breaks}
use Rattle.model.specs.declared.calls.Call.{Call}
use Rattle.model.specs.declared.rules.Packet.{Packet}
use Rattle.model.specs.declared.rules.Property.{Property}
use Rattle.model.specs.declared.rules.Rule.{Rule}
use Rattle.tree.specs.Table.{shape_of}
use Rattle.lists.specs.Lengths.{lengths_of, length_at}
use Rattle.checks.specs.Rows.{property_row}
use Rattle.checks.specs.declared.rows.PropertyRow.{PropertyRow}
use Rattle.state.specs.Order.{Checked}
use Rattle.state.specs.Picture.{Pictures, Reached}
use Rattle.state.specs.Rows.{Stored, rule_count}
use Rattle.state.specs.declared.state.State.{State}

-- how long the list of firewall f is
abbrev pub list_length : {A R : Type 0} → State A R → ℕ → ℕ
list_length g f = length_at (lengths_of g.lists) f

-- enough is lent, there is such a firewall, and the position is one of the first n
pub record There {A R : Type 0} (g : State A R) (l : Lent) (f n p : ℕ) : Type 0 where
  pub long : IsTooShort l → ⊥
  pub firewall : Firewall (shape_of g.tree) f
  pub position : p < n

-- there is room for one more rule, in the list and in all
pub record Room {A R : Type 0} (g : State A R) (f : ℕ) : Type 0 where
  pub list : list_length g f < max_list
  pub all : rule_count g < max_rules

module _ {A R V W X Y : Type 0} (ka : Ghosts A V X) (kr : Ghosts R W Y) where
  -- the checks before the edit: no refusal with a number below n applies, and what is then known; or the right refusal
  pub record Opened {B : Type 0} (g : State A R) (c : Call A R V W) (l : Lent) (n : ℕ) (known : Type 0) (r : Result B (Refusal V W)) : Type 0 where
    pub right : (s : Stored X Y) (t : Tree A R) → Reached ka.holds kr.holds t → Pictures ka.plain kr.plain g s t → Checked ka.holds kr.holds t c l n r
    pub fits : IfOk r (λ x. known)
    pub short : IsTooShort l → r ≡ Err TooShort

  -- the tree is the state's, firewall f is in it, and what stands in it is kept
  pub record Stands (g : State A R) (rows : List (PropertyRow X Y)) (f : ℕ) (t : Tree A R) : Type 0 where
    pub all_addresses : t.addresses ≡ g.addresses
    pub all_rests : t.rests ≡ g.rests
    pub shape : shape_of g.tree ≡ t.shape
    pub firewall : f < length t.lists
    pub properties : take g.property_count rows ≡ map (property_row ka.plain kr.plain) t.properties
    pub kept : (n : ℕ) (p : Property A R) → slice_get t.properties n ≡ Some p → Kept ka.holds kr.holds t p

-- a search of the list rs
module _ {A R V W : Type 0} (addr : A → V → Type 0) (rests : R → W → Type 0) (t : Tree A R) (rs : List (Rule A R)) where
  -- a packet of the whole that the list leaves unmatched
  abbrev pub UnmatchedShown : Refusal V W → Type 0
  UnmatchedShown q = (k : Packet V W) × (q ≡ LeftUnmatched k) × (InWhole addr rests t k × Unmatched addr rests rs k)

  -- the first property that is broken once firewall f has the list
  abbrev pub BreakShown : ℕ → Refusal V W → Type 0
  BreakShown f q = (n : ℕ) × (k : Packet V W) × (q ≡ Breaks n f k) × BreaksOne addr rests (with_rules t f rs) n f k

  abbrev pub NoneBroken : ℕ → Type 0
  NoneBroken f = Nowhere (Broken {V = V} {W = W} addr rests (with_rules t f rs)) t.properties

  -- 10: the list is complete, or what is shown is not matched
  abbrev pub CompleteJudged : {B : Type 0} → Result B (Refusal V W) → Type 0
  CompleteJudged (Ok x) = Complete {V = V} {W = W} addr rests t rs
  CompleteJudged (Err q) = UnmatchedShown q

  -- 12: no property is broken, or what is shown breaks the first that is
  abbrev pub KeptJudged : {B : Type 0} → ℕ → Result B (Refusal V W) → Type 0
  KeptJudged f (Ok x) = NoneBroken f
  KeptJudged f (Err q) = BreakShown f q

  -- 10, and then 12
  abbrev pub EditJudged : {B : Type 0} → ℕ → Result B (Refusal V W) → Type 0
  EditJudged f (Ok x) = Complete {V = V} {W = W} addr rests t rs × NoneBroken f
  EditJudged f (Err q) = UnmatchedShown q ⊎ (Complete {V = V} {W = W} addr rests t rs × BreakShown f q)
