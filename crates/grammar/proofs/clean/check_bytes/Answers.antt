use Rattle.std.proofs.Common.{◌<◌, true≢false, arith, sym, ◌∙◌}
use Rattle.grammar.specs.Limits.{max_line}
use Rattle.grammar.proofs.Bytes.{wrong_byte}
use Rattle.grammar.proofs.clean.check_bytes.Goals as goal

pub returns-then-not-is_printed : goal.returns-then-not-is_printed
returns-then-not-is_printed c =
    let place = c.loop-place.place in
    let few : place < max_line = let most = c.loop-place.invariant.few in omega arith in
    let wrong = c.if-not-is_printed.true in
    rw c.at-then-not-is_printed.ensures (wrong_byte c.args.line.now place (omega arith) few c.loop-place.invariant.printed (λ is. true≢false (sym (c.is_printed.ensures.1 is) ∙ wrong)))
