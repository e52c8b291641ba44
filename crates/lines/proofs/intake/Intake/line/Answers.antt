use Rattle.std.proofs.Common.{◌∙◌, subst}
use Rattle.grammar.specs.Reading.{ReadsLine}
use Rattle.lines.proofs.Fronts.{front_means}
use Rattle.lines.proofs.intake.Intake.line.Goals as goal

pub returns-clause-means : goal.returns-clause-means
returns-clause-means c text m held reads = front_means text m (subst (λ t. ReadsLine t m) (c.as_slice.ensures ∙ held) reads)
