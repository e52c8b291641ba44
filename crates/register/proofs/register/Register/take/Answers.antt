use Rattle.std.proofs.Common.{rules, refl}
use Rattle.model.specs.declared.answers.Answer.TheVariants.{Done}
use Rattle.model.specs.declared.calls.Call.TheVariants.{Take}
use Rattle.state.specs.Memory.{lent_by, tables_of}
use Rattle.register.proofs.Promises.{promised}
use Rattle.register.proofs.register.Register.take.Goals as goal

pub returns-clause-promise : goal.returns-clause-promise
returns-clause-promise g c =
    let m = c.args.memory.now in
    promised g.A.Kind g.R.Kind g.met.A.Kind.decided g.met.A.Kind.inhabited c.args.self.now _ (tables_of m) _ (Take c.args.block)
    (lent_by m) (λ _. Done) (λ x. refl) (λ x a is. search rules) c.take.result c.answer.result c.answer.ensures c.take.ensures.does
