-- How rules, blocks and properties lie in tables. `pa` and `pr` give the rows of addresses and of rests.
use Rattle.std.specs.Prelude.{◌≡◌, List, map, Some, None, Option}
use Rattle.kinds.specs.declared.kind.Kind.{Ghosts}
use Rattle.kinds.specs.declared.pair.Pair.{Pair}
use Rattle.kinds.specs.declared.set.SetRow.{SetRow}
use Rattle.search.specs.declared.list.Entry.{Entry}
use Rattle.model.specs.Packets.{decision_number}
use Rattle.model.specs.Tree.{Block}
use Rattle.model.specs.declared.rules.Property.{Property}
use Rattle.model.specs.declared.rules.Rule.{Rule}
use Rattle.checks.specs.declared.rows.PropertyRow.{PropertyRow}

abbrev pub rule_row : {A R X Y : Type 0} → (A → X) → (R → Y) → Rule A R → Pair SetRow (Pair X (Pair X Y))
rule_row pa pr r = record {
  left = record { mask = r.interfaces.mask };
  right = record { left = pa r.source; right = record { left = pa r.destination; right = pr r.rest } };
}

abbrev pub rule_entry : {A R X Y : Type 0} → (A → X) → (R → Y) → Rule A R → Entry (Pair SetRow (Pair X (Pair X Y)))
rule_entry pa pr r = record { row = rule_row pa pr r; outcome = decision_number r.decision }

abbrev pub block_entry : {A X : Type 0} → (A → X) → Block A → Entry X
block_entry pa b = record { row = pa b.region; outcome = b.domain }

abbrev pub property_row : {A R X Y : Type 0} → (A → X) → (R → Y) → Property A R → PropertyRow X Y
property_row pa pr p = record { sort = p.sort; from = p.from; to = p.to; source = pa p.source; destination = pa p.destination; rest = pr p.rest }

-- a row's property with these regions; nothing where one of them is missing
abbrev pub property_with : {A R X Y : Type 0} → PropertyRow X Y → Option A → Option A → Option R → Option (Property A R)
property_with w None d r = None
property_with w (Some s) None r = None
property_with w (Some s) (Some d) None = None
property_with w (Some s) (Some d) (Some r) = Some (record { sort = w.sort; from = w.from; to = w.to; source = s; destination = d; rest = r })

-- the property of a row. `ra` and `rr` read the rows of addresses and of rests.
abbrev pub property_of : {A R X Y : Type 0} → (X → Option A) → (Y → Option R) → PropertyRow X Y → Option (Property A R)
property_of ra rr w = property_with w (ra w.source) (ra w.destination) (rr w.rest)

module _ {A R V W X Y : Type 0} (addresses : Ghosts A V X) (rests : Ghosts R W Y) where
  -- the rows are those of the rules, in order
  abbrev pub RulesAre : List (Entry (Pair SetRow (Pair X (Pair X Y)))) → List (Rule A R) → Type 0
  RulesAre rows rs = rows ≡ map (rule_entry addresses.plain rests.plain) rs

  -- the rows are those of the properties, in order
  abbrev pub PropertiesAre : List (PropertyRow X Y) → List (Property A R) → Type 0
  PropertiesAre rows ps = rows ≡ map (property_row addresses.plain rests.plain) ps
