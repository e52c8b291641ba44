-- The lines that can be said, by their bounds.
use Rattle.std.proofs.Common.{◌↔◌, rules, arith}
use Rattle.model.specs.declared.calls.Call.TheVariants as call
use Rattle.grammar.specs.Sayable.{Sayable, InBounds}
use Rattle.grammar.specs.declared.line.Line.{Line}
use Rattle.grammar.specs.declared.line.Line.TheVariants as line

pub sayable_in_bounds : (l : Line) → Sayable l ↔ InBounds l
sayable_in_bounds line.Heading = search (rules, arith)
sayable_in_bounds (line.Call (call.Attach d i j w)) = search (rules, arith)
sayable_in_bounds (line.Call (call.Branch f i)) = search (rules, arith)
sayable_in_bounds (line.Call (call.Give d x)) = search (rules, arith)
sayable_in_bounds (line.Call (call.Take b)) = search (rules, arith)
sayable_in_bounds (line.Call (call.Place f p r)) = search (rules, arith)
sayable_in_bounds (line.Call (call.Alter f p r)) = search (rules, arith)
sayable_in_bounds (line.Call (call.Lift f p)) = search (rules, arith)
sayable_in_bounds (line.Call (call.Stand p)) = search (rules, arith)
sayable_in_bounds (line.Call (call.Withdraw n)) = search (rules, arith)
sayable_in_bounds (line.Call (call.Ask p)) = search (rules, arith)
sayable_in_bounds (line.Call (call.Send h)) = search (rules, arith)
sayable_in_bounds (line.List k) = search (rules, arith)
