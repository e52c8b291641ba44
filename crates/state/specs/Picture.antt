-- When a state and the tables picture a tree, and what a call does.
use Rattle.std.specs.Prelude.{◌≡◌, List, map, length, take, Ok, Err, Result}
use Rattle.kinds.specs.declared.kind.Kind.{Ghosts}
use Rattle.model.specs.Record.{plain, then_tree, Right, Lawful}
use Rattle.model.specs.Refusals.{IsTooShort}
use Rattle.model.specs.Tree.{Tree}
use Rattle.model.specs.declared.answers.Answer.{Answer}
use Rattle.model.specs.declared.answers.Answer.TheVariants.{Refused}
use Rattle.model.specs.declared.answers.Lent.{Lent}
use Rattle.model.specs.declared.answers.Recorded.{Recorded}
use Rattle.model.specs.declared.answers.Refusal.{Refusal}
use Rattle.model.specs.declared.answers.Refusal.TheVariants.{TooShort}
use Rattle.model.specs.declared.calls.Call.{Call}
use Rattle.tree.specs.Table.{shape_of}
use Rattle.lists.specs.Layout.{Laid}
use Rattle.lists.specs.Lengths.{lengths_of}
use Rattle.checks.specs.Rows.{rule_entry, block_entry, property_row}
use Rattle.state.specs.Rows.{Stored, stored_after}
use Rattle.state.specs.declared.state.State.{State}

-- the state and the used rows of the tables stand for the tree. `pa` and `pr` give the rows of addresses and of rests.
pub record Pictures {A R X Y : Type 0} (pa : A → X) (pr : R → Y) (g : State A R) (s : Stored X Y) (t : Tree A R) : Type 0 where
  pub addresses : g.addresses ≡ t.addresses
  pub rests : g.rests ≡ t.rests
  pub shape : shape_of g.tree ≡ t.shape
  pub lists : Laid (rule_entry pa pr) (lengths_of g.lists) s.rules t.lists
  pub block_count : g.block_count ≡ length t.blocks
  pub blocks : take g.block_count s.blocks ≡ map (block_entry pa) t.blocks
  pub property_count : g.property_count ≡ length t.properties
  pub properties : take g.property_count s.properties ≡ map (property_row pa pr) t.properties

-- the answer that a result stands for; `say` is the answer where it is not refused
abbrev pub answered : {B V W : Type 0} → (B → Answer V W) → Result B (Refusal V W) → Answer V W
answered say (Ok x) = say x
answered say (Err e) = Refused e

-- the tree is that of a lawful record
abbrev pub Reached : {A R V W : Type 0} → (A → V → Type 0) → (R → W → Type 0) → Tree A R → Type 0
Reached {A} {R} {V} {W} addr rests t = (a : A) × (r : R) × (es : List (Recorded A R V W)) × Lawful addr rests a r es × (t ≡ plain a r es)

module _ {A R V W X Y : Type 0} (ka : Ghosts A V X) (kr : Ghosts R W Y) where
  -- the answer to a call is right in every tree that is reached and pictured before it, and the tree after it is pictured then
  abbrev pub Turns : State A R → Stored X Y → Call A R V W → Lent → Answer V W → State A R → Stored X Y → Type 0
  Turns g s c l a h z = (t : Tree A R) → Reached ka.holds kr.holds t → Pictures ka.plain kr.plain g s t
      → Right ka.holds kr.holds t c l a × Pictures ka.plain kr.plain h z (then_tree t (record { call = c; lent = l; answer = a }))

  -- the state after a refusal, and the tables after any answer
  abbrev pub StateKept : {B : Type 0} → Result B (Refusal V W) → State A R → State A R → Type 0
  StateKept (Ok x) g h = Unit {0}
  StateKept (Err e) g h = h ≡ g

  abbrev pub TablesAre : {B : Type 0} → Result B (Refusal V W) → State A R → Stored X Y → Call A R V W → Stored X Y → Type 0
  TablesAre (Ok x) g s c z = z ≡ stored_after ka.plain kr.plain g s c
  TablesAre (Err e) g s c z = z ≡ s

  -- what a call does that answers by a result
  pub record Tried {B : Type 0} (g : State A R) (s : Stored X Y) (c : Call A R V W) (l : Lent) (say : B → Answer V W) (r : Result B (Refusal V W)) (h : State A R) (z : Stored X Y) : Type 0 where
    pub turns : Turns g s c l (answered say r) h z
    pub state : StateKept r g h
    pub tables : TablesAre r g s c z
    pub short : IsTooShort l → r ≡ Err TooShort
