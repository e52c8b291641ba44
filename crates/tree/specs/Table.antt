-- The tree that a table holds.
use Rattle.std.specs.Prelude.{◌≡◌, ℕ, suc, ◌<◌, ◌≤◌, ◌⊎◌, length, Ok, Err, Result, ◌≢◌}
use Rattle.model.specs.Limits.{max_domains, max_interfaces}
use Rattle.model.specs.Shape.{Shape, Domain, Firewall, Joined, attached, branched}
use Rattle.tables.specs.FixedVec.{used}
use Rattle.tree.specs.declared.table.TreeTable.{TreeTable}
use Rattle.tree.specs.declared.refusal.TreeRefusal.{TreeRefusal}
use Rattle.tree.specs.declared.refusal.TreeRefusal.TheVariants.{NoSuch, BadInterface, Full}

-- the rows that count
abbrev pub shape_of : TreeTable → Shape
shape_of t = record { firewalls = used t.firewalls; domains = used t.domains }

-- two interfaces for a new firewall
abbrev pub Apart : ℕ → ℕ → Type 0
Apart i j = (i < max_interfaces) × (j < max_interfaces) × (i ≢ j)

-- what attach answers, the first refusal that applies, and the table after it
abbrev pub Attaches : TreeTable → ℕ → ℕ → ℕ → Result (ℕ × ℕ) TreeRefusal → TreeTable → Type 0
Attaches t d i j (Ok made) after =
    Domain (shape_of t) d × Apart i j × (made.0 ≡ length (shape_of t).firewalls) × (made.1 ≡ suc (length (shape_of t).domains)) × (made.1 < max_domains) × (shape_of after ≡ attached (shape_of t) d i j)
Attaches t d i j (Err NoSuch) after = (Domain (shape_of t) d → ⊥) × (after ≡ t)
Attaches t d i j (Err BadInterface) after = Domain (shape_of t) d × (Apart i j → ⊥) × (after ≡ t)
Attaches t d i j (Err Full) after = Domain (shape_of t) d × Apart i j × (max_domains ≤ suc (length (shape_of t).domains)) × (after ≡ t)

-- an interface for a new domain below f
abbrev pub Free : Shape → ℕ → ℕ → Type 0
Free s f i = (i < max_interfaces) × ((d : ℕ) → Joined s f d i → ⊥)

-- what branch answers, the first refusal that applies, and the table after it
abbrev pub Branches : TreeTable → ℕ → ℕ → Result ℕ TreeRefusal → TreeTable → Type 0
Branches t f i (Ok made) after =
    Firewall (shape_of t) f × Free (shape_of t) f i × (made ≡ suc (length (shape_of t).domains)) × (made < max_domains) × (shape_of after ≡ branched (shape_of t) f i)
Branches t f i (Err NoSuch) after = (Firewall (shape_of t) f → ⊥) × (after ≡ t)
Branches t f i (Err BadInterface) after = Firewall (shape_of t) f × ((max_interfaces ≤ i) ⊎ ((d : ℕ) × Joined (shape_of t) f d i)) × (after ≡ t)
Branches t f i (Err Full) after = Firewall (shape_of t) f × Free (shape_of t) f i × (max_domains ≤ suc (length (shape_of t).domains)) × (after ≡ t)
