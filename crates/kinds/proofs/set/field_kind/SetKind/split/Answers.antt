use Rattle.std.proofs.Common.{inl, inr, arith}
use Rattle.std.proofs.lemmas.Nat.{and_le_l, xor_lt}
use Rattle.kinds.proofs.Bits.{parted_bits, unsplit_bits}
use Rattle.kinds.proofs.set.field_kind.SetKind.split.Goals as goal

pub invariant_of-result-then-others-ne0 : goal.invariant_of-result-then-others-ne0
invariant_of-result-then-others-ne0 c =
    let few = c.args.self.few in
    record { some = omega arith; few = xor_lt 32 _ _ few (omega (arith, and_le_l c.args.self.mask c.args.other.mask)) }

pub returns-then-others-ne0 : goal.returns-then-others-ne0
returns-then-others-ne0 c = parted_bits c.args.self.mask c.args.other.mask c.args.self.few (omega arith) (omega arith)

pub returns-else-common-ne0 : goal.returns-else-common-ne0
returns-else-common-ne0 c = unsplit_bits c.args.self.mask c.args.other.mask (elim c.else-common-ne0.either [ inl h ↦ inr h.1 | inr h ↦ inl h ])
