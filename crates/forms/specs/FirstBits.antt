-- Addresses that agree in their first bits.
use Rattle.std.specs.Prelude.{◌≡◌, ℕ, ◌+◌, ◌*◌, ◌/◌, ◌^◌, ◌<◌}
use Rattle.std.proofs.Common.{ap, arith}
use Rattle.std.proofs.lemmas.Nat.{pow_pos, shr_split, mod_below}

-- v is in the block of x: they are equal after a shift by s
abbrev pub In : ℕ → ℕ → ℕ → Type 0
In x s v = v / 2 ^ s ≡ x / 2 ^ s

pub in_bound : (x s v : ℕ) → In x s v → v < x + 2 ^ s
in_bound x s v h =
    let vs = shr_split v s in
    let xs = shr_split x s in
    let low = mod_below v (2 ^ s) (pow_pos s) in
    let same = ap (λ n. n * 2 ^ s) h in
    omega arith
