use Rattle.kinds.specs.Masks.{top_bit}
use Rattle.kinds.proofs.set.field_kind.SetKind.pick.Goals as goal

pub returns : goal.returns
returns c = top_bit _ _ c.ilog2.ensures.power_le c.ilog2.ensures.next_power_gt
