use Rattle.std.proofs.Common.{refl, arith}
use Rattle.std.proofs.lemmas.Bool.Decides.{not_from_Decides}
use Rattle.forms.proofs.Halves.{common_in, disjoint_in}
use Rattle.kinds.proofs.Sharing.{common_swap}
use Rattle.forms.proofs.prefix.field_kind.PrefixKind.meet.Goals as goal

pub returns-then-has : goal.returns-then-has
returns-then-has c = common_in _ _ _ _ (omega arith) (c.if-has.ensures.0 refl)

pub returns-else-has : goal.returns-else-has
returns-else-has c = disjoint_in _ _ _ _ (omega arith) (not_from_Decides _ c.has.ensures c.if-has.false)

pub returns-then-has-2 : goal.returns-then-has-2
returns-then-has-2 c = common_swap _ _ _ (common_in _ _ _ _ (omega arith) (c.if-has-2.ensures.0 refl))

pub returns-else-has-2 : goal.returns-else-has-2
returns-else-has-2 c = λ v a b. disjoint_in _ _ _ _ (omega arith) (not_from_Decides _ c.has-else-self-other.ensures c.if-has-2.false) v b a
