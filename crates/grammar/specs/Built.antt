-- The lines that values make.
use Rattle.std.specs.Prelude.{◌≡◌, List, Option, Some, None}
use Rattle.grammar.specs.Lines.{forms, verb_of, values_of}
use Rattle.grammar.specs.Sayable.{InForms}
use Rattle.grammar.specs.declared.line.Line.{Line}
use Rattle.grammar.specs.declared.line.Verb.{Verb}
use Rattle.grammar.specs.declared.value.Value.{Value}

-- the line of a verb and its values; there is one where they have the verb's forms
abbrev pub Makes : Verb → List Value → Option Line → Type 0
Makes v vs (Some l) = (verb_of l ≡ v) × (values_of l ≡ vs)
Makes v vs None = InForms (forms v) vs → ⊥
