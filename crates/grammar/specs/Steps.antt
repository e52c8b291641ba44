-- What the steps of reading a line find.
use Rattle.std.specs.Prelude.{◌≡◌, ℕ, ◌⊎◌, List}
use Rattle.grammar.specs.Limits.{max_line}
use Rattle.grammar.specs.Reading.{FirstWrong, GoesOn}
use Rattle.grammar.specs.declared.fault.Cause.TheVariants as cause
use Rattle.grammar.specs.declared.fault.LineFault.{LineFault}
use Rattle.grammar.specs.declared.fault.LineProblem.TheVariants as problem

-- the first fault of a line's bytes
abbrev pub Unclean : List ℕ → LineFault → Type 0
Unclean text e =
    (FirstWrong text e.byte × (e ≡ record { cause = cause.Line problem.WrongByte; field = 0; byte = e.byte }))
    ⊎ (GoesOn text × (e ≡ record { cause = cause.Line problem.TooLong; field = 0; byte = max_line }))
