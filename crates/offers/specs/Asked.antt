-- What ask answers.
use Rattle.std.specs.Prelude.{Some, None, Option}
use Rattle.model.specs.declared.answers.Answer.{Answer}
use Rattle.model.specs.declared.answers.Answer.TheVariants.{Kept, Broken}
use Rattle.verdicts.specs.declared.route.Break.{Break}

-- the answer of ask, by what breaks the property
abbrev pub asked_as : {V W : Type 0} → Option (Break V W) → Answer V W
asked_as None = Kept
asked_as (Some b) = Broken b.firewall b.packet
