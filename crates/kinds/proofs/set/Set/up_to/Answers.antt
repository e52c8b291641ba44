use Rattle.std.proofs.Common.{◌+◌, ◌^◌, ◌≤◌, arith, pow_mono}
use Rattle.std.proofs.lemmas.Nat.{one_shl}
use Rattle.kinds.proofs.Bits.{ones_bits}
use Rattle.kinds.proofs.set.Set.up_to.Goals as goal

pub invariant_of-result : goal.invariant_of-result
invariant_of-result c =
    let count = c.min-count.result + 1 in
    let low : 2 ^ 1 ≤ 2 ^ count = pow_mono {i = 1} (omega arith) in
    let high : 2 ^ count ≤ 2 ^ 32 = pow_mono {j = 32} (omega (arith, c.min-count.ensures)) in
    rw (one_shl count 64 (omega (arith, c.min-count.ensures))) (omega arith)

pub returns : goal.returns
returns c =
    let count = c.min-count.result + 1 in
    let ones = ones_bits count in
    rw (one_shl count 64 (omega (arith, c.min-count.ensures)))
    (λ v h. omega (arith, ones.0 v h, c.min-count.ensures), λ v h. ones.1 v (omega (arith, c.min-count.ensures)))
