-- What a reader answers.
use Rattle.std.specs.Prelude.{◌≡◌, ℕ, ◌⊎◌, List, Ok, Err, Result}
use Rattle.spelling.specs.Misfit.{Misfit}
use Rattle.spelling.specs.Forms.{Spells, Spelled, Explains}
use Rattle.spelling.specs.declared.form.Mark.{Mark}
use Rattle.spelling.specs.declared.fault.Fault.{Fault}
use Rattle.spelling.specs.declared.fault.Problem.{Problem}

-- the value of a right text; else what is wrong, of its form at the first byte that cannot stand there, or of its value at the first byte
abbrev pub Reads : {X : Type 0} → (List ℕ → Type 0) → (List ℕ → ℕ → Problem → Type 0) → (List ℕ → Result X Problem → Type 0) → List ℕ → Result X Fault → Type 0
Reads L explains means text (Ok x) = means text (Ok x)
Reads L explains means text (Err f) = (Misfit L text f.byte × explains text f.byte f.problem) ⊎ ((f.byte ≡ 0) × means text (Err f.problem))

-- what the numbers that a text spells mean
abbrev pub Means : {X E : Type 0} → List Mark → (List ℕ → Result X E → Type 0) → List ℕ → Result X E → Type 0
Means marks means text r = (ns : List ℕ) × Spells marks ns text × means ns r

-- the reading of a text of a form
abbrev pub ReadsForm : {X : Type 0} → List Mark → (List ℕ → Result X Problem → Type 0) → List ℕ → Result X Fault → Type 0
ReadsForm marks means text r = Reads (Spelled marks) Explains (Means marks means) text r
