use Rattle.std.proofs.Common.{Ok, Err, rules, ◌≡◌, length, ap, arith}
use Rattle.std.proofs.lemmas.Grind.{common_steps}
use Rattle.spelling.specs.Letters.{letter}
use Rattle.spelling.proofs.Decisions.{no_letter}
use Rattle.spelling.proofs.Once.{alone_decision}
use Rattle.spelling.proofs.decision.read_decision.Goals as goal

pub returns-in_default : goal.returns-in_default
returns-in_default c =
    alone_decision c.args.text.now _ (no_letter c.args.text.now (λ d rest e. let size = ap length e in let none = c.in_default.ensures.cases in omega arith))

pub returns-in_default-decision_of : goal.returns-in_default-decision_of
returns-in_default-decision_of c =
    alone_decision c.args.text.now _ (no_letter c.args.text.now (λ d rest e. let first : c.in-Some.first.now ≡ letter d = cc (c.in-Some.ensures.cases.0, e) in c.in_default-decision_of.ensures d first))

pub returns-then-not-is_empty : goal.returns-then-not-is_empty
returns-then-not-is_empty c = alone_decision c.args.text.now (Err (record { byte = 1 })) (search rules)

pub returns : goal.returns
returns c = alone_decision c.args.text.now (Ok c.in-Some-decision_of.decision) (grind (arith, common_steps))
