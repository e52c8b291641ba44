-- Bytes of a line, and how they are found right or wrong.
use Rattle.std.proofs.Common.{ℕ, ◌<◌, List, length, take, get_or, refl, inl}
use Rattle.std.specs.List.{AllByRecursion}
use Rattle.std.proofs.lemmas.Option.{slice_get-get_or}
use Rattle.grammar.specs.Limits.{max_line}
use Rattle.grammar.specs.Reading.{Printed}
use Rattle.grammar.specs.Steps.{Unclean}
use Rattle.grammar.specs.declared.fault.Cause.TheVariants as cause
use Rattle.grammar.specs.declared.fault.LineProblem.TheVariants as problem

pub wrong_byte : (text : List ℕ) (i : ℕ) → i < length text → i < max_line → AllByRecursion Printed (take i text) → (Printed (get_or text i 0) → ⊥)
    → Unclean text (record { cause = cause.Line problem.WrongByte; field = 0; byte = i })
wrong_byte text i within few all wrong = inl ((few, all, get_or text i 0, slice_get-get_or text i 0 within, wrong), refl)
