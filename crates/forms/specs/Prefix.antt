-- Prefixes: addresses that agree in their first bits.
use Rattle.std.specs.Prelude.{◌≡◌, ℕ, ◌-◌, ◌/◌, ◌%◌, ◌^◌, ◌≤◌, Option}
use Rattle.std.proofs.Math.Decide.{dec_le, ℕ_discrete}
use Rattle.kinds.specs.Made.{provided, dec_both}
use Rattle.forms.specs.declared.prefix.Prefix.{Prefix}

-- the addresses whose first bits are those of x
abbrev pub prefix_holds : Prefix → ℕ → Type 0
prefix_holds x v = v / 2 ^ (32 - x.length) ≡ x.address / 2 ^ (32 - x.length)

-- a length of at most 32, and no bit set past it
abbrev pub IsPrefix : ℕ → ℕ → Type 0
IsPrefix address length = (length ≤ 32) × (address % 2 ^ (32 - length) ≡ 0)

abbrev pub prefix_of : ℕ → ℕ → Option Prefix
prefix_of address length =
    provided (dec_both (dec_le length 32) (ℕ_discrete (address % 2 ^ (32 - length)) 0))
    (λ h. record { address = address; length = length; short = h.0; clean = h.1 })
