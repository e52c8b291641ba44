use Rattle.kinds.proofs.Bits.{meet_bits}
use Rattle.kinds.proofs.set.field_kind.SetKind.meet.Goals as goal

pub returns : goal.returns
returns c = rw c.new.ensures (meet_bits c.args.self.mask c.args.other.mask c.args.self.few)
