-- Faults and their places.
use Rattle.std.specs.Prelude.{ℕ, ◌+◌, Ok, Err, Result}
use Rattle.spelling.specs.declared.fault.Fault.{Fault}
use Rattle.spelling.specs.declared.fault.Problem.{Problem}
use Rattle.spelling.specs.declared.fault.Problem.TheVariants.{Number}
use Rattle.spelling.specs.declared.fault.NumberFault.{NumberFault}
use Rattle.spelling.specs.declared.fault.NumberFault.TheVariants.{NoDigit, TooManyDigits, TooLarge}

-- how many digits of a number are right before a fault of its form
abbrev pub digits_before : NumberFault → ℕ
digits_before NoDigit = 0
digits_before TooManyDigits = 10
digits_before TooLarge = 0

-- the fault of a number that starts at this byte
abbrev pub number_fault : NumberFault → ℕ → Fault
number_fault e start = record { problem = Number e; byte = start + digits_before e }

-- what is wrong, at its place
abbrev pub placed : {X : Type 0} → Result X Problem → ℕ → Result X Fault
placed (Ok x) byte = Ok x
placed (Err p) byte = Err (record { problem = p; byte = byte })
