-- Faults of lines, their numbers and their layers.
use Rattle.std.specs.Prelude.{ℕ}
use Rattle.spelling.specs.declared.fault.Fault.{Fault}
use Rattle.spelling.specs.declared.fault.Problem.{Problem}
use Rattle.spelling.specs.declared.fault.Problem.TheVariants as problem
use Rattle.spelling.specs.declared.fault.NumberFault.TheVariants.{NoDigit, TooManyDigits, TooLarge}
use Rattle.spelling.specs.declared.fault.RegionFault.TheVariants.{Unfit, HostBits, LoAboveHi, Empty}
use Rattle.grammar.specs.declared.fault.Cause.{Cause}
use Rattle.grammar.specs.declared.fault.Cause.TheVariants.{Line, Region, Number}
use Rattle.grammar.specs.declared.fault.LineProblem.TheVariants.{TooLong, WrongByte, NoLetter, WrongCount, NoDecision, TooSmall}

-- 13: the line's bytes; 14: its letter, or how many fields it has; 15: the form of a field; 16: its value
abbrev pub cause_number : Cause → ℕ
cause_number (Line TooLong) = 13
cause_number (Line WrongByte) = 13
cause_number (Line NoLetter) = 14
cause_number (Line WrongCount) = 14
cause_number (Line NoDecision) = 15
cause_number (Line TooSmall) = 16
cause_number (Region Unfit) = 15
cause_number (Region HostBits) = 16
cause_number (Region LoAboveHi) = 16
cause_number (Region Empty) = 16
cause_number (Number NoDigit) = 15
cause_number (Number TooManyDigits) = 15
cause_number (Number TooLarge) = 16

-- what a field's reader found, by its layer
abbrev pub cause_of : Problem → Cause
cause_of (problem.Number e) = Number e
cause_of (problem.Region e) = Region e

-- what is wrong with a field, at which of its bytes
pub record Misread : Type 0 where
  pub cause : Cause
  pub byte : ℕ

abbrev pub misread : Fault → Misread
misread f = record { cause = cause_of f.problem; byte = f.byte }
