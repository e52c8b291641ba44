use Rattle.std.proofs.Common.{rules, refl}
use Rattle.model.specs.declared.answers.Answer.TheVariants.{Branched}
use Rattle.model.specs.declared.calls.Call.TheVariants.{Branch}
use Rattle.state.specs.Memory.{lent_by, tables_of}
use Rattle.register.proofs.Promises.{promised}
use Rattle.register.proofs.register.Register.branch.Goals as goal

pub returns : goal.returns
returns g c =
    let m = c.args.memory.now in
    promised g.A.Kind g.R.Kind g.met.A.Kind.decided g.met.A.Kind.inhabited c.args.self.now _ (tables_of m) _ (Branch c.args.firewall c.args.interface)
    (lent_by m) Branched (λ x. refl) (λ x a is. search rules) c.branch-self.result c.answer.result c.answer.ensures c.branch-self.ensures
