-- The answer that the result of a call stands for.
use Rattle.std.specs.Prelude.{◌≡◌, Ok, Err, Result}
use Rattle.model.specs.declared.answers.Answer.{Answer}
use Rattle.model.specs.declared.answers.Answer.TheVariants.{Refused}
use Rattle.model.specs.declared.answers.Refusal.{Refusal}

-- a is the answer that the result stands for, where `say x a` says that a is the answer to x
abbrev pub Answers : {B V W : Type 0} → (B → Answer V W → Type 0) → Result B (Refusal V W) → Answer V W → Type 0
Answers say (Ok x) a = say x a
Answers say (Err e) a = a ≡ Refused e
