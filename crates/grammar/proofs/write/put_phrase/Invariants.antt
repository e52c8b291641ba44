use Rattle.std.proofs.Common.{◌+◌, ◌≤◌, length, drop}
use Rattle.spelling.proofs.Writing.{Going}
use Rattle.grammar.specs.Texts.{phrase, behind_commas, longest}
use Rattle.grammar.proofs.write.put_phrase.Given as goal

abbrev pub invariant-loop-value : goal.invariant-loop-value
invariant-loop-value l = record {
  going : Going l.fn.buf l.buf l.at (phrase l.word l.values) (behind_commas (drop l.value-index l.values)) l.end;
  short : l.end + longest (drop l.value-index l.values) ≤ l.at + (length l.word + longest l.values);
}
