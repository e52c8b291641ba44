-- A line that is written is read back.
use Rattle.std.proofs.Common.{◌+◌, ◌<◌, ◌≤◌, List, [], ◌∷◌, length, map, Ok, refl, arith}
use Rattle.std.proofs.Math.Nat.{le_of_lt}
use Rattle.std.specs.List.{AllByRecursion}
use Rattle.std.proofs.lemmas.List.{length-append}
use Rattle.model.specs.declared.calls.Call.TheVariants as call
use Rattle.model.specs.declared.rules.Decision.TheVariants.{Accept, Discard}
use Rattle.spelling.proofs.Back.{number_back, address_back, prefix_back, range_back}
use Rattle.spelling.proofs.LettersBack.{set_back}
use Rattle.spelling.proofs.Short.{number_short, address_short, prefix_short, range_short}
use Rattle.grammar.specs.Limits.{max_line, max_number}
use Rattle.grammar.specs.Lines.{letter, forms, region_forms, verb_of, values_of, line_text}
use Rattle.grammar.specs.Reading.{ReadsField, AllRead, ReadsLine}
use Rattle.grammar.specs.Sayable.{InForm, InForms, InType, Sayable}
use Rattle.grammar.specs.Texts.{value_text, behind_commas, widest, longest}
use Rattle.grammar.specs.declared.line.Line.{Line}
use Rattle.grammar.specs.declared.line.Line.TheVariants as line
use Rattle.grammar.specs.declared.line.Verb.{Verb}
use Rattle.grammar.specs.declared.line.Verb.TheVariants.{Heading, Attach, Branch, Give, Take, Place, Alter, Lift, Stand, Withdraw, Ask, Send, List as Listing}
use Rattle.grammar.specs.declared.value.Form.{Form}
use Rattle.grammar.specs.declared.value.Form.TheVariants as form
use Rattle.grammar.specs.declared.value.Value.{Value}
use Rattle.grammar.specs.declared.value.Value.TheVariants.{Number, Decision, Set, Address, Prefix, Range}
use Rattle.grammar.proofs.Fields.{fields_phrase}
use Rattle.grammar.proofs.Plain.{IsPlain, AllPlain, plain, no_comma, values_no_comma, values_plain, phrase_printed}

-- the numbers of the form have at most five digits
abbrev Small : Form → Type 0
Small (form.Number least most) = most ≤ max_number
Small form.Decision = Unit {0}
Small form.Set = Unit {0}
Small form.Address = Unit {0}
Small form.Prefix = Unit {0}
Small (form.Range most) = Unit {0}

region_small : AllByRecursion Small region_forms
region_small = (tt, (tt, (tt, (tt, (tt, tt)))))

forms_small : (v : Verb) → AllByRecursion Small (forms v)
forms_small Heading = (omega arith, tt)
forms_small Attach = (omega arith, (omega arith, (omega arith, (tt, tt))))
forms_small Branch = (omega arith, (omega arith, tt))
forms_small Give = (omega arith, (tt, tt))
forms_small Take = (omega arith, tt)
forms_small Place = (omega arith, (omega arith, (tt, (tt, region_small))))
forms_small Alter = (omega arith, (omega arith, (tt, (tt, region_small))))
forms_small Lift = (omega arith, (omega arith, tt))
forms_small Stand = (tt, (omega arith, (omega arith, region_small)))
forms_small Withdraw = (omega arith, tt)
forms_small Ask = (tt, (omega arith, (omega arith, region_small)))
forms_small Send = (tt, (tt, (omega arith, (omega arith, (omega arith, tt)))))
forms_small Listing = (omega arith, tt)

-- a value's text is read as that value
field_back : (f : Form) (v : Value) → Small f → InType v → InForm f v → ReadsField f (value_text v) (Ok v)
field_back (form.Number least most) (Number n) small type fits = (n, refl, number_back n (omega arith) most fits.1, fits.0)
field_back form.Decision (Decision d) small type fits = (d, refl, refl)
field_back form.Set (Set x) small type fits = (x, refl, set_back x)
field_back form.Address (Address a) small type fits = (a, refl, address_back a type)
field_back form.Prefix (Prefix x) small type fits = (x, refl, prefix_back x type)
field_back (form.Range most) (Range x) small type fits = (x, refl, range_back x type most fits)
field_back f v small type fits = absurd fits

fields_back : (fs : List Form) (vs : List Value) → AllByRecursion Small fs → AllByRecursion InType vs → InForms fs vs → AllRead fs (map value_text vs) vs
fields_back [] [] small types fits = tt
fields_back [] (v ∷ vs) small types fits = absurd fits
fields_back (f ∷ fs) [] small types fits = absurd fits
fields_back (f ∷ fs) (v ∷ vs) small types fits = (field_back f v small.0 types.0 fits.0, fields_back fs vs small.1 types.1 fits.1)

-- a value's text is as short as its case has it
value_short : (v : Value) → InType v → length (value_text v) ≤ widest v
value_short (Number n) type = number_short n type
value_short (Decision Accept) type = omega arith
value_short (Decision Discard) type = omega arith
value_short (Set x) type = omega arith
value_short (Address a) type = address_short a
value_short (Prefix x) type = prefix_short x
value_short (Range x) type = range_short x type

behind_short : (vs : List Value) → AllByRecursion InType vs → length (behind_commas vs) ≤ longest vs
behind_short [] types = omega arith
behind_short (v ∷ vs) types =
    let first = value_short v types.0 in
    let rest = behind_short vs types.1 in
    let size = length-append (value_text v) (behind_commas vs) in
    omega arith

-- no line is too long
line_longest : (l : Line) → 1 + longest (values_of l) < max_line
line_longest line.Heading = omega arith
line_longest (line.Call (call.Attach d i j w)) = omega arith
line_longest (line.Call (call.Branch f i)) = omega arith
line_longest (line.Call (call.Give d x)) = omega arith
line_longest (line.Call (call.Take b)) = omega arith
line_longest (line.Call (call.Place f p r)) = omega arith
line_longest (line.Call (call.Alter f p r)) = omega arith
line_longest (line.Call (call.Lift f p)) = omega arith
line_longest (line.Call (call.Stand p)) = omega arith
line_longest (line.Call (call.Withdraw n)) = omega arith
line_longest (line.Call (call.Ask p)) = omega arith
line_longest (line.Call (call.Send h)) = omega arith
line_longest (line.List k) = omega arith

pub line_short : (l : Line) → AllByRecursion InType (values_of l) → length (line_text l) < max_line
line_short l types =
    let most = line_longest l in
    let rest = behind_short (values_of l) types in
    let size = length-append (letter (verb_of l) ∷ []) (behind_commas (values_of l)) in
    omega arith

letter_plain : (v : Verb) → IsPlain (letter v)
letter_plain Heading = plain 84 (omega arith) (omega arith)
letter_plain Attach = plain 65 (omega arith) (omega arith)
letter_plain Branch = plain 66 (omega arith) (omega arith)
letter_plain Give = plain 71 (omega arith) (omega arith)
letter_plain Take = plain 75 (omega arith) (omega arith)
letter_plain Place = plain 80 (omega arith) (omega arith)
letter_plain Alter = plain 67 (omega arith) (omega arith)
letter_plain Lift = plain 76 (omega arith) (omega arith)
letter_plain Stand = plain 83 (omega arith) (omega arith)
letter_plain Withdraw = plain 87 (omega arith) (omega arith)
letter_plain Ask = plain 81 (omega arith) (omega arith)
letter_plain Send = plain 88 (omega arith) (omega arith)
letter_plain Listing = plain 77 (omega arith) (omega arith)

pub line_back : (l : Line) → AllByRecursion InType (values_of l) → Sayable l → ReadsLine (line_text l) (Ok l)
line_back l types fits =
    let word : AllPlain (letter (verb_of l) ∷ []) = (letter_plain (verb_of l), tt) in
    let read = fields_back (forms (verb_of l)) (values_of l) (forms_small (verb_of l)) types fits in
    let texts = values_plain (forms (verb_of l)) (values_of l) read in (
      (le_of_lt (line_short l types), phrase_printed (letter (verb_of l) ∷ []) (values_of l) word texts),
      map value_text (values_of l),
      fields_phrase (letter (verb_of l) ∷ []) (values_of l) (no_comma (letter (verb_of l) ∷ []) word) (values_no_comma (values_of l) texts),
      read,
    )
