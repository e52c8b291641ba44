use Rattle.tables.specs.FixedVec.{used}
use Rattle.lines.proofs.Fronts.{err_ap, room_or_full, front_pushed}
use Rattle.lines.proofs.intake.Intake.push.Goals as goal

pub returns : goal.returns
returns c text held = front_pushed text (used c.args.self.now.front) _ c.args.byte held (room_or_full c.push-room.result _ _ c.args.byte c.push-room.ensures.room c.push-room.ensures.after (err_ap used c.push-room.result _ _ c.push-room.ensures.same))
