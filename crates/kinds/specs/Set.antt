-- Sets of numbers from 0 to 31, as masks.
use Rattle.std.specs.Prelude.{◌≡◌, ℕ, ◌/◌, ◌%◌, ◌^◌, ◌<◌, Option}
use Rattle.std.proofs.Math.Decide.{dec_lt}
use Rattle.kinds.specs.Made.{provided, dec_both}
use Rattle.kinds.specs.declared.set.Set.{Set}

-- the numbers whose bit is set
abbrev pub set_holds : Set → ℕ → Type 0
set_holds x v = x.mask / 2 ^ v % 2 ≡ 1

-- a mask of 32 bits, at least one of them set
abbrev pub IsMask : ℕ → Type 0
IsMask mask = (0 < mask) × (mask < 2 ^ 32)

abbrev pub set_of : ℕ → Option Set
set_of mask = provided (dec_both (dec_lt 0 mask) (dec_lt mask (2 ^ 32))) (λ h. record { mask = mask; some = h.0; few = h.1 })
