use Rattle.std.proofs.Common.{◌≡◌, map, take}
use Rattle.register.specs.Promise.{Tells}
use Rattle.replay.specs.Replay.{step_of, tables_in}
use Rattle.replay.proofs.run.replay.Given as goal

-- the record so far is of the steps so far, and told by register and tables
abbrev pub invariant-loop-step : goal.invariant-loop-step
invariant-loop-step g l = Tells g.A.Kind g.R.Kind l.fn.addresses l.fn.rests l.record.items l.register (tables_in l.stores) × (map step_of l.record.items ≡ take l.step-index l.steps)
