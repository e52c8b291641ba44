use Rattle.std.proofs.Common.{sym}
use Rattle.std.proofs.lemmas.List.{take_rest}
use Rattle.grammar.proofs.Cutting.{one_field, first_field}
use Rattle.grammar.proofs.part.Part.cut.Goals as goal

pub returns-in_default-clause-fields : goal.returns-in_default-clause-fields
returns-in_default-clause-fields c = one_field c.args.self.text.now (sym c.in_default.ensures)

pub returns-clause-fields : goal.returns-clause-fields
returns-clause-fields c = rw take_rest ((first_field c.args.self.text.now c.in-Some.place (sym c.in-Some.ensures)).1)
