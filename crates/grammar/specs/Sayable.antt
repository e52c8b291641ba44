-- Which lines can be said: the numbers of their fields are within the bounds of their places.
use Rattle.std.specs.Prelude.{◌^◌, ◌<◌, ◌≤◌, List, [], ◌∷◌}
use Rattle.model.specs.declared.calls.Call.TheVariants as call
use Rattle.grammar.specs.Limits.{max_number, max_protocol}
use Rattle.grammar.specs.Lines.{LongRest, LongCall, forms, verb_of, values_of}
use Rattle.grammar.specs.declared.line.Line.{Line}
use Rattle.grammar.specs.declared.line.Line.TheVariants as line
use Rattle.grammar.specs.declared.value.Form.{Form}
use Rattle.grammar.specs.declared.value.Form.TheVariants as form
use Rattle.grammar.specs.declared.value.Value.{Value}
use Rattle.grammar.specs.declared.value.Value.TheVariants.{Number, Decision, Set, Address, Prefix, Range}

-- the value has this form, and its numbers are within the form's bounds
abbrev pub InForm : Form → Value → Type 0
InForm (form.Number least most) (Number n) = (least ≤ n) × (n ≤ most)
InForm form.Decision (Decision d) = Unit {0}
InForm form.Set (Set x) = Unit {0}
InForm form.Address (Address a) = Unit {0}
InForm form.Prefix (Prefix x) = Unit {0}
InForm (form.Range most) (Range x) = x.hi ≤ most
InForm f v = ⊥

abbrev pub InForms : List Form → List Value → Type 0
InForms [] [] = Unit {0}
InForms [] (v ∷ vs) = ⊥
InForms (f ∷ fs) [] = ⊥
InForms (f ∷ fs) (v ∷ vs) = InForm f v × InForms fs vs

abbrev pub Sayable : Line → Type 0
Sayable l = InForms (forms (verb_of l)) (values_of l)

-- the same by the lines, in places that have bounds
abbrev pub RestInBounds : LongRest → Type 0
RestInBounds r = (r.left.hi ≤ max_number) × (r.right.left.hi ≤ max_number) × (r.right.right.hi ≤ max_protocol)

abbrev pub CallInBounds : LongCall → Type 0
CallInBounds (call.Attach d i j w) = (d ≤ max_number) × (i ≤ max_number) × (j ≤ max_number)
CallInBounds (call.Branch f i) = (f ≤ max_number) × (i ≤ max_number)
CallInBounds (call.Give d x) = d ≤ max_number
CallInBounds (call.Take b) = b ≤ max_number
CallInBounds (call.Place f p r) = (f ≤ max_number) × (p ≤ max_number) × RestInBounds r.rest
CallInBounds (call.Alter f p r) = (f ≤ max_number) × (p ≤ max_number) × RestInBounds r.rest
CallInBounds (call.Lift f p) = (f ≤ max_number) × (p ≤ max_number)
CallInBounds (call.Stand p) = (p.from ≤ max_number) × (p.to ≤ max_number) × RestInBounds p.rest
CallInBounds (call.Withdraw n) = n ≤ max_number
CallInBounds (call.Ask p) = (p.from ≤ max_number) × (p.to ≤ max_number) × RestInBounds p.rest
CallInBounds (call.Send h) = (h.rest.left ≤ max_number) × (h.rest.right.left ≤ max_number) × (h.rest.right.right ≤ max_protocol)

abbrev pub InBounds : Line → Type 0
InBounds line.Heading = Unit {0}
InBounds (line.Call c) = CallInBounds c
InBounds (line.List k) = k ≤ max_number

-- the numbers of the value are as small as their types have them
abbrev pub InType : Value → Type 0
InType (Number n) = n < 2 ^ 64
InType (Decision d) = Unit {0}
InType (Set x) = Unit {0}
InType (Address a) = a < 2 ^ 32
InType (Prefix x) = x.address < 2 ^ 32
InType (Range x) = x.hi < 2 ^ 32
