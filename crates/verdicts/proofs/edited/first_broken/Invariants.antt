use Rattle.std.proofs.Common.{◌≡◌, ℕ, ◌<◌, List, map, length, Some}
use Rattle.std.specs.List.{slice_get}
use Rattle.search.specs.First.{Before}
use Rattle.model.specs.Properties.{Kept}
use Rattle.model.specs.Refusals.{Broken}
use Rattle.model.specs.Tree.{Tree, with_rules}
use Rattle.model.specs.declared.rules.Property.{Property}
use Rattle.model.specs.declared.rules.Rule.{Rule}
use Rattle.tree.specs.Table.{shape_of}
use Rattle.checks.specs.Rows.{property_row, rule_entry}
use Rattle.verdicts.proofs.edited.first_broken.Given as goal

-- no property so far would be broken
abbrev pub invariant-loop-index : goal.invariant-loop-index
invariant-loop-index g l =
    (t : Tree g.row.A.Denot g.row.R.Denot) (rs : List (Rule g.row.A.Denot g.row.R.Denot)) → shape_of l.tree ≡ t.shape → l.firewall < length t.lists
    → l.list ≡ map (rule_entry g.A.Kind.plain g.R.Kind.plain) rs → l.properties ≡ map (property_row g.A.Kind.plain g.R.Kind.plain) t.properties
    → ((n : ℕ) (p : Property g.row.A.Denot g.row.R.Denot) → slice_get t.properties n ≡ Some p → Kept g.A.Kind.holds g.R.Kind.holds t p)
    → Before (Broken g.A.Kind.holds g.R.Kind.holds (with_rules t l.firewall rs)) t.properties l.index
