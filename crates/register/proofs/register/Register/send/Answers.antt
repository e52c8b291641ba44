use Rattle.std.proofs.Common.{rules}
use Rattle.model.specs.declared.calls.Call.TheVariants.{Send}
use Rattle.verdicts.specs.Passage.{passage_answer}
use Rattle.state.specs.Memory.{lent_by, tables_of}
use Rattle.register.proofs.Promises.{promised, sent_plain}
use Rattle.register.proofs.register.Register.send.Goals as goal

pub returns : goal.returns
returns g c =
    let m = c.args.memory.now in
    promised g.A.Kind g.R.Kind g.met.A.Kind.decided g.met.A.Kind.inhabited c.args.self.now c.args.self.now (tables_of m) _ (Send c.args.header)
    (lent_by m) passage_answer sent_plain (λ x a is. search rules) c.send.result c.answer.result c.answer.ensures c.send.ensures
