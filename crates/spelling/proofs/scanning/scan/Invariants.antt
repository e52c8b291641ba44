use Rattle.std.proofs.Common.{◌≡◌, ◌∷◌, length, take, drop}
use Rattle.spelling.proofs.Left.{AfterNumber}
use Rattle.spelling.proofs.scanning.scan.Given as goal

abbrev pub invariant-loop-place : goal.invariant-loop-place
invariant-loop-place g l = record {
  room : length l.later ≡ length l.marks;
  read : AfterNumber l.marks (drop l.place l.marks) (l.first ∷ take l.place l.later) l.text l.end;
}
