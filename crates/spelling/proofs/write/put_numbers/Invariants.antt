use Rattle.std.proofs.Common.{◌∷◌, drop}
use Rattle.spelling.specs.Writes.{form_text, marked_text}
use Rattle.spelling.proofs.Writing.{Going}
use Rattle.spelling.proofs.write.put_numbers.Given as goal

abbrev pub invariant-loop-place : goal.invariant-loop-place
invariant-loop-place g l =
    Going l.fn.buf l.buf l.at (form_text l.marks (l.numbers.first ∷ l.numbers.later)) (marked_text (drop l.place l.marks) (drop l.place l.numbers.later)) l.end
