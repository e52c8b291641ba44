use Rattle.std.proofs.Common.{arith}
use Rattle.std.proofs.lemmas.Nat.{one_shl}
use Rattle.kinds.proofs.Bits.{single_bit}
use Rattle.kinds.proofs.set.Set.single.Goals as goal

pub returns-then-value-lt32 : goal.returns-then-value-lt32
returns-then-value-lt32 c = rw (one_shl c.args.value 32 (omega arith)) (single_bit c.args.value)
