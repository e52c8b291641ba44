-- What the numbers of a text mean, or what is wrong with them.
use Rattle.std.specs.Prelude.{◌≡◌, ℕ, ◌-◌, ◌%◌, ◌^◌, ◌<◌, ◌≤◌, ◌⊎◌, List, [], ◌∷◌, take, slice_index, Ok, Err, Result}
use Rattle.std.specs.List.{AllByRecursion}
use Rattle.std.specs.Int.{w32, from_be_bytes}
use Rattle.forms.specs.declared.prefix.Prefix.{Prefix}
use Rattle.forms.specs.declared.range.Range.{Range}
use Rattle.spelling.specs.declared.fault.Problem.{Problem}
use Rattle.spelling.specs.declared.fault.Problem.TheVariants.{Number, Region}
use Rattle.spelling.specs.declared.fault.NumberFault.TheVariants.{TooLarge}
use Rattle.spelling.specs.declared.fault.RegionFault.TheVariants.{HostBits, LoAboveHi}

-- each number is at most `most`
abbrev pub AtMost : ℕ → List ℕ → Type 0
AtMost most ns = AllByRecursion (λ n. n ≤ most) ns

-- a number, with its bound
abbrev pub NumberOf : ℕ → List ℕ → Result ℕ Problem → Type 0
NumberOf most ns (Ok n) = (ns ≡ n ∷ []) × AtMost most ns
NumberOf most ns (Err p) = (p ≡ Number TooLarge) × (AtMost most ns → ⊥)

-- an address by its four bytes, the highest first
abbrev pub AddressOf : List ℕ → Result ℕ Problem → Type 0
AddressOf ns (Ok a) = AtMost 255 ns × (a ≡ from_be_bytes w32 ns)
AddressOf ns (Err p) = (p ≡ Number TooLarge) × (AtMost 255 ns → ⊥)

-- an address and a length of at most 32; the bits past the length are the host's, and have to be zero
abbrev pub PrefixOf : List ℕ → Result Prefix Problem → Type 0
PrefixOf ns (Ok x) = AddressOf (take 4 ns) (Ok x.address) × (x.length ≡ slice_index ns 4)
PrefixOf ns (Err p) =
    ((p ≡ Number TooLarge) × (AtMost 255 (take 4 ns) × (slice_index ns 4 ≤ 32) → ⊥))
    ⊎ ((p ≡ Region HostBits) × AtMost 255 (take 4 ns) × (slice_index ns 4 ≤ 32) × (from_be_bytes w32 (take 4 ns) % 2 ^ (32 - slice_index ns 4) ≡ 0 → ⊥))

-- two numbers, the first at most the second
abbrev pub RangeOf : ℕ → List ℕ → Result Range Problem → Type 0
RangeOf most ns (Ok x) = (ns ≡ x.lo ∷ x.hi ∷ []) × AtMost most ns
RangeOf most ns (Err p) = ((p ≡ Number TooLarge) × (AtMost most ns → ⊥)) ⊎ ((p ≡ Region LoAboveHi) × AtMost most ns × (slice_index ns 1 < slice_index ns 0))
