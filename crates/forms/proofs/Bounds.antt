-- Numbers between two bounds.
use Rattle.std.proofs.Common.{ℕ, ◌≤◌, min, max, arith, MatchOption}
use native.Mathlib.Decide.{dec_le}
use Rattle.kinds.specs.Words.{Disjoint, Common}
use Rattle.forms.specs.Range.{range_of}
use Rattle.forms.specs.declared.range.Range.{Range}
use Rattle.kinds.proofs.Provided.{provided_cases}

abbrev pub Between : ℕ → ℕ → ℕ → Type 0
Between lo hi v = (lo ≤ v) × (v ≤ hi)

pub meet_bounds : (a b c d : ℕ) → MatchOption (range_of (max a c) (min b d)) (Disjoint (Between a b) (Between c d)) (λ m. Common (Between a b) (Between c d) (Between m.lo m.hi))
meet_bounds a b c d =
    provided_cases (dec_le (max a c) (min b d)) (λ h. record { lo = max a c; hi = min b d; ordered = h })
    (Disjoint (Between a b) (Between c d)) (λ (m : Range). Common (Between a b) (Between c d) (Between m.lo m.hi))
    (λ n v h k. n (omega arith)) (λ h. record { left = λ v k. omega arith; right = λ v k. omega arith; all = λ v k l. omega arith })
