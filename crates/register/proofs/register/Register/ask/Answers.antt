use Rattle.std.proofs.Common.{rules}
use Rattle.model.specs.declared.calls.Call.TheVariants.{Ask}
use Rattle.state.specs.Memory.{lent_by, tables_of}
use Rattle.offers.specs.Asked.{asked_as}
use Rattle.register.proofs.Promises.{promised, asked_plain}
use Rattle.register.proofs.register.Register.ask.Goals as goal

pub returns-clause-promise : goal.returns-clause-promise
returns-clause-promise g c =
    let m = c.args.memory.now in
    promised g.A.Kind g.R.Kind g.met.A.Kind.decided g.met.A.Kind.inhabited c.args.self.now c.args.self.now (tables_of m) _ (Ask c.args.property)
    (lent_by m) asked_as asked_plain (λ x a is. search rules) c.ask.result c.answer.result c.answer.ensures c.ask.ensures.does
