-- How long the lists of a table can be.
use Rattle.std.proofs.Common.{ℕ, ◌≤◌, length, sum, inl, inr, arith}
use Rattle.std.proofs.lemmas.List.{get_or_past}
use Rattle.std.proofs.lemmas.Bool.{cases_lt}
use Rattle.model.specs.Limits.{max_list, max_rules}
use Rattle.lists.specs.Lengths.{lengths_of, length_at}
use Rattle.lists.specs.declared.table.ListTable.{ListTable}

module _ (t : ListTable) where
  pub length_max : (f : ℕ) → length_at (lengths_of t) f ≤ max_list
  length_max f = elim (cases_lt f (length (lengths_of t))) [
    | inl less ↦ t.short f 0 less
    | inr past ↦ omega (arith, get_or_past (lengths_of t) f 0 past)
  ]

  pub sum_max : sum (lengths_of t) ≤ max_rules
  sum_max = t.room
