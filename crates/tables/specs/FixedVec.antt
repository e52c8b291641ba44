-- What a buffer with its length beside it holds.
use Rattle.std.specs.Prelude.{ℕ, List, take}
use Rattle.tables.specs.declared.fixed_vec.FixedVec.{FixedVec}

-- the items in use, in order
abbrev pub used : {T : Type 0} {N : ℕ} → FixedVec T N → List T
used v = take v.count v.items
