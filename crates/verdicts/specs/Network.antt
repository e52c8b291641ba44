-- When tables stand for the firewalls of a tree.
use Rattle.std.specs.Prelude.{◌≡◌}
use Rattle.lists.specs.Layout.{Laid}
use Rattle.lists.specs.Lengths.{lengths_of}
use Rattle.model.specs.Tree.{Tree}
use Rattle.tree.specs.Table.{shape_of}
use Rattle.checks.specs.Rows.{rule_entry}
use Rattle.verdicts.specs.declared.network.Network.{Network}

-- the tables have the tree's shape and its lists. `pa` and `pr` give the rows of addresses and of rests.
pub record Draws {A R V W X Y : Type 0} (pa : A → X) (pr : R → Y) (n : Network A R V X W Y) (t : Tree A R) : Type 0 where
  pub shape : shape_of n.tree.now ≡ t.shape
  pub lists : Laid (rule_entry pa pr) (lengths_of n.lists.now) n.rules.now t.lists
