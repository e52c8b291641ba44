use Rattle.std.proofs.Common.{arith}
use Rattle.std.proofs.lemmas.Bool.{ltb-true, lt-ltb}
use Rattle.kinds.specs.Masks.{low_bit}
use Rattle.kinds.proofs.set.field_kind.SetKind.has.Goals as goal

pub returns-else-value-lt32 : goal.returns-else-value-lt32
returns-else-value-lt32 c =
    (λ e. absurd (omega (arith, ltb-true _ _ e)), λ h. lt-ltb _ _ (low_bit c.args.self.mask c.args.value c.args.self.few h))
