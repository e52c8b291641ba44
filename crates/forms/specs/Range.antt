-- Ranges: the numbers from lo to hi.
use Rattle.std.specs.Prelude.{ℕ, ◌≤◌, Option}
use Rattle.std.proofs.Math.Decide.{dec_le}
use Rattle.kinds.specs.Made.{provided}
use Rattle.forms.specs.declared.range.Range.{Range}

-- lo, hi, and what lies between
abbrev pub range_holds : Range → ℕ → Type 0
range_holds x v = (x.lo ≤ v) × (v ≤ x.hi)

-- the range from lo to hi, if lo is at most hi
abbrev pub range_of : ℕ → ℕ → Option Range
range_of lo hi = provided (dec_le lo hi) (λ h. record { lo = lo; hi = hi; ordered = h })
