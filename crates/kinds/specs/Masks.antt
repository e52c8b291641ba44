-- The numbers of a mask: there are few, and some.
use Rattle.std.specs.Prelude.{◌≡◌, ℕ, ◌*◌, ◌/◌, ◌%◌, ◌^◌, ◌<◌, ◌≤◌}
use Rattle.std.proofs.Common.{ap, inl, inr, arith, pow_mono}
use Rattle.std.proofs.Math.Nat.{div-eq_of_lt, div-eq_of_lt-le, pow-succ'}
use Rattle.std.proofs.lemmas.Nat.{leading_top}
use Rattle.std.proofs.lemmas.Bool.{cases_lt}

-- bit v of the mask m is set
abbrev pub Bit : ℕ → ℕ → Type 0
Bit m v = m / 2 ^ v % 2 ≡ 1

pub low_bit : (m v : ℕ) → m < 2 ^ 32 → Bit m v → v < 32
low_bit m v few h = elim (cases_lt v 32) [
  | inl low ↦ low
  | inr high ↦ absurd (let power : 2 ^ 32 ≤ 2 ^ v = pow_mono high in let gone : m / 2 ^ v ≡ 0 = div-eq_of_lt (omega arith) in omega arith)
]

-- the highest set bit
pub top_bit : (m v : ℕ) → 2 ^ v ≤ m → m < 2 * 2 ^ v → Bit m v
top_bit m v low high = ap (λ n. n % 2) (div-eq_of_lt-le {k = 1} (2 ^ v) (omega arith) (omega arith))

pub some_bit : (m : ℕ) → 0 < m → m < 2 ^ 32 → (v : ℕ) × Bit m v
some_bit m some few =
    let top = leading_top 32 m some few in
    (top.0, top_bit m top.0 top.2 (omega (arith, pow-succ' 2 top.0, top.3)))
