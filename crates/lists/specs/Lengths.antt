-- The lengths that a table holds, and where each list lies.
use Rattle.std.specs.Prelude.{ℕ, List, take, sum, slice_index}
use Rattle.tables.specs.FixedVec.{used}
use Rattle.lists.specs.declared.table.ListTable.{ListTable}

-- the length of each firewall's list, in firewall order
abbrev pub lengths_of : ListTable → List ℕ
lengths_of t = used t.lengths

-- how long the list of firewall f is, 0 where there is none
abbrev pub length_at : List ℕ → ℕ → ℕ
length_at ls f = slice_index ls f

-- the row that it starts at
abbrev pub start_of : List ℕ → ℕ → ℕ
start_of ls f = sum (take f ls)
