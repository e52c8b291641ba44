use Rattle.std.proofs.Common.{rules, refl}
use Rattle.model.specs.declared.calls.Call.TheVariants.{Attach}
use Rattle.state.specs.Memory.{lent_by, tables_of}
use Rattle.growth.specs.Attached.{attached_as}
use Rattle.register.proofs.Promises.{promised}
use Rattle.register.proofs.register.Register.attach.Goals as goal

pub returns-clause-promise : goal.returns-clause-promise
returns-clause-promise g c =
    let m = c.args.memory.now in
    promised g.A.Kind g.R.Kind g.met.A.Kind.decided g.met.A.Kind.inhabited c.args.self.now _ (tables_of m) _ (Attach c.args.domain c.args.upper c.args.lower c.args.decision)
    (lent_by m) attached_as (λ x. refl) (λ x a is. search rules) c.attach.result c.answer.result c.answer.ensures c.attach.ensures.does
