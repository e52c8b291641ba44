use Rattle.spelling.proofs.LettersBack.{set_back}
use Rattle.spelling.proofs.sets.put_set.Goals as goal

pub returns-clause-back : goal.returns-clause-back
returns-clause-back c = set_back c.args.set
