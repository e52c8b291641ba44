-- What a replay does, and what it answers.
use Rattle.std.specs.Prelude.{◌≡◌, ℕ, ◌≤◌, List, ◌++◌, map, length, take, vec_len}
use Rattle.kinds.specs.declared.kind.Kind.{Ghosts}
use Rattle.model.specs.Limits.{max_rules, max_blocks, max_properties, min_packet_frames, min_address_frames}
use Rattle.model.specs.Record.{Lawful}
use Rattle.model.specs.declared.answers.Answer.{Answer}
use Rattle.model.specs.declared.answers.Lent.{Lent}
use Rattle.model.specs.declared.answers.Recorded.{Recorded}
use Rattle.register.specs.Promise.{Tells}
use Rattle.state.specs.Rows.{Stored, stored}
use Rattle.register.specs.declared.register.Register.{Register}
use Rattle.replay.specs.declared.step.Step.{Step}
use Rattle.replay.specs.declared.stores.Stores.{Stores}

-- the entry of a record: this step, and what was answered
abbrev pub entry : {A R V W : Type 0} → Step A R V W → Answer V W → Recorded A R V W
entry s a = record { call = s.call; lent = s.lent; answer = a }

-- the call of an entry, with the lengths that were lent to it
abbrev pub step_of : {A R V W : Type 0} → Recorded A R V W → Step A R V W
step_of e = record { call = e.call; lent = e.lent }

-- the record of these steps: each of them, in order, with its answer; and it is lawful
pub record Replayed {A R V W : Type 0} (addr : A → V → Type 0) (rests : R → W → Type 0) (a : A) (r : R) (asked : List (Step A R V W)) (es : List (Recorded A R V W)) : Type 0 where
  pub entries : map step_of es ≡ asked
  pub lawful : Lawful addr rests a r es

-- how long these slices are
abbrev pub lengths : {P Q S T U : Type 0} → List P → List Q → List S → List T → List U → Lent
lengths rules blocks properties packets addresses = record {
  rules = length rules;
  blocks = length blocks;
  properties = length properties;
  packet_frames = length packets;
  address_frames = length addresses;
}

-- what the three tables of the stores hold
abbrev pub tables_in : {X Y : Type 0} → Stores X Y → Stored X Y
tables_in s = stored s.rules.items s.blocks.items s.properties.items

-- the stores have at least so many rows
pub record Reaches {X Y : Type 0} (s : Stores X Y) (l : Lent) : Type 0 where
  pub rules : l.rules ≤ vec_len s.rules
  pub blocks : l.blocks ≤ vec_len s.blocks
  pub properties : l.properties ≤ vec_len s.properties
  pub packet_frames : l.packet_frames ≤ vec_len s.packet_frames
  pub address_frames : l.address_frames ≤ vec_len s.address_frames

-- how long the stores are
abbrev pub lengths_in : {X Y : Type 0} → Stores X Y → Lent
lengths_in s = record {
  rules = vec_len s.rules;
  blocks = vec_len s.blocks;
  properties = vec_len s.properties;
  packet_frames = vec_len s.packet_frames;
  address_frames = vec_len s.address_frames;
}

-- the least lengths with which no call is refused for want of room
abbrev pub least : Lent
least = record {
  rules = max_rules;
  blocks = max_blocks;
  properties = max_properties;
  packet_frames = min_packet_frames;
  address_frames = min_address_frames;
}

-- where the old stores are no longer than this, the new ones are as long
pub record Fits {X Y : Type 0} (old new : Stores X Y) (l : Lent) : Type 0 where
  pub rules : vec_len old.rules ≤ l.rules → vec_len new.rules ≡ l.rules
  pub blocks : vec_len old.blocks ≤ l.blocks → vec_len new.blocks ≡ l.blocks
  pub properties : vec_len old.properties ≤ l.properties → vec_len new.properties ≡ l.properties
  pub packet_frames : vec_len old.packet_frames ≤ l.packet_frames → vec_len new.packet_frames ≡ l.packet_frames
  pub address_frames : vec_len old.address_frames ≤ l.address_frames → vec_len new.address_frames ≡ l.address_frames

-- the first rows of the second are those of the first
abbrev pub Begins : {T : Type 0} → List T → List T → Type 0
Begins old new = (k : ℕ) → k ≤ length old → take k new ≡ take k old

-- the tables have the same rows, and perhaps more behind them
pub record Longer {X Y : Type 0} (old new : Stores X Y) : Type 0 where
  pub rules : Begins old.rules.items new.rules.items
  pub blocks : Begins old.blocks.items new.blocks.items
  pub properties : Begins old.properties.items new.properties.items

-- for every record: where register and tables stand as it leaves them before, they stand afterwards as it leaves them with these entries added
abbrev pub Continues : {A R V W X Y : Type 0} → Ghosts A V X → Ghosts R W Y → Register A R → Stored X Y → List (Recorded A R V W) → Register A R → Stored X Y → Type 0
Continues {A} {R} {V} {W} ka kr g s added h z = (x : A) (y : R) (es : List (Recorded A R V W)) → Tells ka kr x y es g s → Tells ka kr x y (es ++ added) h z
