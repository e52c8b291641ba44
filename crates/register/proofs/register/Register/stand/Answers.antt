use Rattle.std.proofs.Common.{rules, refl}
use Rattle.model.specs.declared.answers.Answer.TheVariants.{Done}
use Rattle.model.specs.declared.calls.Call.TheVariants.{Stand}
use Rattle.state.specs.Memory.{lent_by, tables_of}
use Rattle.register.proofs.Promises.{promised}
use Rattle.register.proofs.register.Register.stand.Goals as goal

pub returns-clause-promise : goal.returns-clause-promise
returns-clause-promise g c =
    let m = c.args.memory.now in
    promised g.A.Kind g.R.Kind g.met.A.Kind.decided g.met.A.Kind.inhabited c.args.self.now _ (tables_of m) _ (Stand c.args.property)
    (lent_by m) (λ _. Done) (λ x. refl) (λ x a is. search rules) c.stand.result c.answer.result c.answer.ensures c.stand.ensures.does
