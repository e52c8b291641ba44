-- The memory that is lent to a call: what it holds, and how much there is of it.
use Rattle.std.specs.Prelude.{◌≡◌, List, length}
use Rattle.std.specs.Borrow.{MutBor}
use Rattle.model.specs.declared.answers.Lent.{Lent}
use Rattle.state.specs.Rows.{Stored, stored}
use Rattle.state.specs.declared.memory.Memory.{Memory}

-- what the three tables hold
abbrev pub tables_of : {X Y : Type 0} → Memory X Y → Stored X Y
tables_of m = stored m.rules.now m.blocks.now m.properties.now

-- the lengths of the five slices
abbrev pub lent_by : {X Y : Type 0} → Memory X Y → Lent
lent_by m = record {
  rules = length m.rules.now;
  blocks = length m.blocks.now;
  properties = length m.properties.now;
  packet_frames = length m.packet_frames.now;
  address_frames = length m.address_frames.now;
}

-- the same slice, as long as it was
abbrev pub SameSlice : {T : Type 0} → MutBor (List T) → MutBor (List T) → Type 0
SameSlice old new = (new.ghost_name ≡ old.ghost_name) × (length new.now ≡ length old.now)

-- the same memory, with other rows in it or not
pub record SameMemory {X Y : Type 0} (old new : Memory X Y) : Type 0 where
  pub rules : SameSlice old.rules new.rules
  pub blocks : SameSlice old.blocks new.blocks
  pub properties : SameSlice old.properties new.properties
  pub packet_frames : SameSlice old.packet_frames new.packet_frames
  pub address_frames : SameSlice old.address_frames new.address_frames
