use Rattle.forms.proofs.Bounds.{meet_bounds}
use Rattle.forms.proofs.range.field_kind.RangeKind.meet.Goals as goal

pub returns : goal.returns
returns c = rw (c.new.ensures, c.max.ensures, c.min.ensures) (meet_bounds c.args.self.lo c.args.self.hi c.args.other.lo c.args.other.hi)
