-- What the tables hold, and what a call that is not refused leaves in them, row by row.
use Rattle.std.specs.Prelude.{ℕ, ◌+◌, List, sum, slice_set}
use Rattle.kinds.specs.declared.pair.Pair.{Pair}
use Rattle.kinds.specs.declared.set.SetRow.{SetRow}
use Rattle.search.specs.declared.list.Entry.{Entry}
use Rattle.model.specs.Tree.{all_interfaces}
use Rattle.model.specs.declared.calls.Call.{Call}
use Rattle.model.specs.declared.calls.Call.TheVariants.{Attach, Branch, Give, Take, Place, Alter, Lift, Stand, Withdraw, Ask, Send}
use Rattle.model.specs.declared.rules.Decision.{Decision}
use Rattle.model.specs.declared.rules.Rule.{Rule}
use Rattle.tables.specs.Rows.{row_in, row_out}
use Rattle.lists.specs.Lengths.{lengths_of, start_of}
use Rattle.checks.specs.Rows.{rule_entry, block_entry, property_row}
use Rattle.checks.specs.declared.rows.PropertyRow.{PropertyRow}
use Rattle.state.specs.declared.state.State.{State}

-- what the three tables hold. `X` and `Y` are the rows of addresses and of rests.
pub record Stored (X Y : Type 0) : Type 0 where
  pub rules : List (Entry (Pair SetRow (Pair X (Pair X Y))))
  pub blocks : List (Entry X)
  pub properties : List (PropertyRow X Y)

abbrev pub stored : {X Y : Type 0} → List (Entry (Pair SetRow (Pair X (Pair X Y)))) → List (Entry X) → List (PropertyRow X Y) → Stored X Y
stored rules blocks properties = record { rules = rules; blocks = blocks; properties = properties }

abbrev pub with_rules : {X Y : Type 0} → Stored X Y → List (Entry (Pair SetRow (Pair X (Pair X Y)))) → Stored X Y
with_rules s rows = record { rules = rows; blocks = s.blocks; properties = s.properties }

abbrev pub with_blocks : {X Y : Type 0} → Stored X Y → List (Entry X) → Stored X Y
with_blocks s rows = record { rules = s.rules; blocks = rows; properties = s.properties }

abbrev pub with_properties : {X Y : Type 0} → Stored X Y → List (PropertyRow X Y) → Stored X Y
with_properties s rows = record { rules = s.rules; blocks = s.blocks; properties = rows }

-- how many rules there are in all, and the row of a position in a firewall's list
abbrev pub rule_count : {A R : Type 0} → State A R → ℕ
rule_count g = sum (lengths_of g.lists)

abbrev pub row_at : {A R : Type 0} → State A R → ℕ → ℕ → ℕ
row_at g f p = start_of (lengths_of g.lists) f + p

-- one rule for every packet
abbrev pub catch_all : {A R : Type 0} → State A R → Decision → Rule A R
catch_all g w = record { interfaces = all_interfaces; source = g.addresses; destination = g.addresses; rest = g.rests; decision = w }

-- the tables after a call. `pa` and `pr` give the rows of addresses and of rests.
abbrev pub stored_after : {A R V W X Y : Type 0} → (A → X) → (R → Y) → State A R → Stored X Y → Call A R V W → Stored X Y
stored_after pa pr g s (Attach d i j w) = with_rules s (slice_set s.rules (rule_count g) (rule_entry pa pr (catch_all g w)))
stored_after pa pr g s (Branch f i) = s
stored_after pa pr g s (Give d x) = with_blocks s (slice_set s.blocks g.block_count (block_entry pa (record { region = x; domain = d })))
stored_after pa pr g s (Take b) = with_blocks s (row_out g.block_count b s.blocks)
stored_after pa pr g s (Place f p r) = with_rules s (row_in (rule_count g) (row_at g f p) (rule_entry pa pr r) s.rules)
stored_after pa pr g s (Alter f p r) = with_rules s (slice_set s.rules (row_at g f p) (rule_entry pa pr r))
stored_after pa pr g s (Lift f p) = with_rules s (row_out (rule_count g) (row_at g f p) s.rules)
stored_after pa pr g s (Stand p) = with_properties s (slice_set s.properties g.property_count (property_row pa pr p))
stored_after pa pr g s (Withdraw n) = with_properties s (row_out g.property_count n s.properties)
stored_after pa pr g s (Ask p) = s
stored_after pa pr g s (Send h) = s
