-- Faults of fields at their places in the line.
use Rattle.std.specs.Prelude.{ℕ, ◌+◌, Ok, Err, Result}
use Rattle.spelling.specs.declared.decision.NoDecision.{NoDecision}
use Rattle.grammar.specs.Faults.{Misread}
use Rattle.grammar.specs.declared.fault.Cause.TheVariants as cause
use Rattle.grammar.specs.declared.fault.LineFault.{LineFault}
use Rattle.grammar.specs.declared.fault.LineProblem.TheVariants as problem

abbrev pub no_decision : NoDecision → Misread
no_decision e = record { cause = cause.Line problem.NoDecision; byte = e.byte }

-- what a reader of a field found, in the field of this number, which starts at this byte
abbrev pub placed : {X E : Type 0} → (E → Misread) → Result X E → ℕ → ℕ → Result X LineFault
placed wrong (Ok x) number start = Ok x
placed wrong (Err e) number start = Err (record { cause = (wrong e).cause; field = number; byte = start + (wrong e).byte })
