-- Fields of a line, by what they have to be.
use Rattle.std.specs.Prelude.{◌≡◌, ℕ, List, [], Option, Some, None, Ok, Err, Result}
use Rattle.spelling.specs.Forms.{Only}
use Rattle.grammar.specs.Faults.{Misread}
use Rattle.grammar.specs.Places.{placed}
use Rattle.grammar.specs.Reading.{fields, ReadsField, AllRead, FirstFault}
use Rattle.grammar.specs.declared.fault.LineFault.{LineFault}
use Rattle.grammar.specs.declared.field.Field.{Field}
use Rattle.grammar.specs.declared.field.Field.TheVariants as field
use Rattle.grammar.specs.declared.part.Part.{Part}
use Rattle.grammar.specs.declared.value.Form.{Form}
use Rattle.grammar.specs.declared.value.Form.TheVariants as form
use Rattle.grammar.specs.declared.value.Value.{Value}

abbrev pub field_form : Field → Form
field_form (field.Number p least most) = form.Number least most
field_form (field.Decision p) = form.Decision
field_form (field.Set p) = form.Set
field_form (field.Address p) = form.Address
field_form (field.Prefix p) = form.Prefix
field_form (field.Range p most) = form.Range most

abbrev pub field_part : Field → Part
field_part (field.Number p least most) = p
field_part (field.Decision p) = p
field_part (field.Set p) = p
field_part (field.Address p) = p
field_part (field.Prefix p) = p
field_part (field.Range p most) = p

-- the only reading of a part of this form, with the fault at its place in the line
abbrev pub ReadsPart : Form → Part → Result Value LineFault → Type 0
ReadsPart f p r = (q : Result Value Misread) × Only (ReadsField f p.text.now) q × (r ≡ placed (λ m. m) q p.number p.start)

-- what the fields of these forms mean, of which the first has this number and starts at this byte: their values, or the first fault
abbrev pub ReadsFields : List Form → List (List ℕ) → ℕ → ℕ → Result (List Value) LineFault → Type 0
ReadsFields fs ts number start (Ok vs) = AllRead fs ts vs
ReadsFields fs ts number start (Err e) = FirstFault fs ts number start e

-- the fields of what is left of a line, if something is
abbrev pub parts_of : Option Part → List (List ℕ)
parts_of None = []
parts_of (Some p) = fields p.text.now

abbrev pub ReadsBehind : List Form → Option Part → Result (List Value) LineFault → Type 0
ReadsBehind fs None r = ReadsFields fs [] 0 0 r
ReadsBehind fs (Some p) r = ReadsFields fs (fields p.text.now) p.number p.start r
