-- What attach answers.
use Rattle.std.specs.Prelude.{ℕ}
use Rattle.model.specs.declared.answers.Answer.{Answer}
use Rattle.model.specs.declared.answers.Answer.TheVariants.{Attached}

-- the answer of attach, with both new numbers
abbrev pub attached_as : {V W : Type 0} → ℕ × ℕ → Answer V W
attached_as made = Attached made.0 made.1
