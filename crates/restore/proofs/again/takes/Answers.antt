use Rattle.std.proofs.Common.{[], ◌∷◌, ◌==◌, ◌∙◌, ap, arith}
use Rattle.std.specs.List.{starts_with}
use Rattle.restore.proofs.Served.{takes_served}
use Rattle.restore.proofs.again.takes.Goals as goal

pub returns-clause-takes : goal.returns-clause-takes
returns-clause-takes c = takes_served _ _ _ _ _ _ _ _ _ c.answer.ensures.serves (omega arith) c.starts_with.result (λ more e. c.starts_with.ensures.value ∙ ap (λ b. starts_with (λ i j. i == j) b (111 ∷ 107 ∷ [])) e)
