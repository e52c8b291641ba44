-- What a line says, by its letter and the values of its fields.
use Rattle.std.specs.Prelude.{ℕ, List, [], ◌∷◌}
use Rattle.kinds.specs.declared.pair.Pair.{Pair}
use Rattle.forms.specs.declared.prefix.Prefix as prefix
use Rattle.forms.specs.declared.range.Range as range
use Rattle.model.specs.declared.calls.Call.{Call}
use Rattle.model.specs.declared.calls.Call.TheVariants as call
use Rattle.model.specs.declared.rules.Header.{Header}
use Rattle.model.specs.declared.rules.Property as property
use Rattle.model.specs.declared.rules.Rule as rule
use Rattle.grammar.specs.Limits.{max_number, max_protocol}
use Rattle.grammar.specs.Texts.{phrase}
use Rattle.grammar.specs.declared.line.Line.{Line}
use Rattle.grammar.specs.declared.line.Line.TheVariants as line
use Rattle.grammar.specs.declared.line.Verb.{Verb}
use Rattle.grammar.specs.declared.line.Verb.TheVariants.{Heading, Attach, Branch, Give, Take, Place, Alter, Lift, Stand, Withdraw, Ask, Send, List as Listing}
use Rattle.grammar.specs.declared.value.Form.{Form}
use Rattle.grammar.specs.declared.value.Form.TheVariants as form
use Rattle.grammar.specs.declared.value.Value.{Value}
use Rattle.grammar.specs.declared.value.Value.TheVariants.{Number, Decision, Set, Address, Prefix, Range}

-- T, A, B, G, K, P, C, L, S, W, Q, X and M
abbrev pub letter : Verb → ℕ
letter Heading = 84
letter Attach = 65
letter Branch = 66
letter Give = 71
letter Take = 75
letter Place = 80
letter Alter = 67
letter Lift = 76
letter Stand = 83
letter Withdraw = 87
letter Ask = 81
letter Send = 88
letter Listing = 77

abbrev pub number_form : Form
number_form = form.Number 0 max_number

abbrev pub protocol_form : Form
protocol_form = form.Number 0 max_protocol

-- source, destination, ports and protocol, as a rule and a property have them
abbrev pub region_forms : List Form
region_forms = form.Prefix ∷ form.Prefix ∷ form.Range max_number ∷ form.Range max_number ∷ form.Range max_protocol ∷ []

abbrev pub rule_forms : List Form
rule_forms = number_form ∷ number_form ∷ form.Decision ∷ form.Set ∷ region_forms

abbrev pub property_forms : List Form
property_forms = form.Decision ∷ number_form ∷ number_form ∷ region_forms

-- the forms of the fields behind the letter
abbrev pub forms : Verb → List Form
forms Heading = form.Number 1 1 ∷ []
forms Attach = number_form ∷ number_form ∷ number_form ∷ form.Decision ∷ []
forms Branch = number_form ∷ number_form ∷ []
forms Give = number_form ∷ form.Prefix ∷ []
forms Take = number_form ∷ []
forms Place = rule_forms
forms Alter = rule_forms
forms Lift = number_form ∷ number_form ∷ []
forms Stand = property_forms
forms Withdraw = number_form ∷ []
forms Ask = property_forms
forms Send = form.Address ∷ form.Address ∷ number_form ∷ number_form ∷ protocol_form ∷ []
forms Listing = number_form ∷ []

-- the rest of a Long packet, as regions and as values: source port, destination port, protocol
abbrev pub LongRest : Type 0
LongRest = Pair range.Range (Pair range.Range range.Range)

abbrev pub LongRestValue : Type 0
LongRestValue = Pair ℕ (Pair ℕ ℕ)

abbrev pub LongCall : Type 0
LongCall = Call prefix.Prefix LongRest ℕ LongRestValue

abbrev pub region_values : prefix.Prefix → prefix.Prefix → LongRest → List Value
region_values s d r = Prefix s ∷ Prefix d ∷ Range r.left ∷ Range r.right.left ∷ Range r.right.right ∷ []

abbrev pub rule_values : ℕ → ℕ → rule.Rule prefix.Prefix LongRest → List Value
rule_values f p r = Number f ∷ Number p ∷ Decision r.decision ∷ Set r.interfaces ∷ region_values r.source r.destination r.rest

abbrev pub property_values : property.Property prefix.Prefix LongRest → List Value
property_values p = Decision p.sort ∷ Number p.from ∷ Number p.to ∷ region_values p.source p.destination p.rest

abbrev pub header_values : Header ℕ LongRestValue → List Value
header_values h = Address h.source ∷ Address h.destination ∷ Number h.rest.left ∷ Number h.rest.right.left ∷ Number h.rest.right.right ∷ []

abbrev pub call_verb : LongCall → Verb
call_verb (call.Attach d i j w) = Attach
call_verb (call.Branch f i) = Branch
call_verb (call.Give d x) = Give
call_verb (call.Take b) = Take
call_verb (call.Place f p r) = Place
call_verb (call.Alter f p r) = Alter
call_verb (call.Lift f p) = Lift
call_verb (call.Stand p) = Stand
call_verb (call.Withdraw n) = Withdraw
call_verb (call.Ask p) = Ask
call_verb (call.Send h) = Send

abbrev pub call_values : LongCall → List Value
call_values (call.Attach d i j w) = Number d ∷ Number i ∷ Number j ∷ Decision w ∷ []
call_values (call.Branch f i) = Number f ∷ Number i ∷ []
call_values (call.Give d x) = Number d ∷ Prefix x ∷ []
call_values (call.Take b) = Number b ∷ []
call_values (call.Place f p r) = rule_values f p r
call_values (call.Alter f p r) = rule_values f p r
call_values (call.Lift f p) = Number f ∷ Number p ∷ []
call_values (call.Stand p) = property_values p
call_values (call.Withdraw n) = Number n ∷ []
call_values (call.Ask p) = property_values p
call_values (call.Send h) = header_values h

abbrev pub verb_of : Line → Verb
verb_of line.Heading = Heading
verb_of (line.Call c) = call_verb c
verb_of (line.List k) = Listing

-- the values of the fields behind the letter
abbrev pub values_of : Line → List Value
values_of line.Heading = Number 1 ∷ []
values_of (line.Call c) = call_values c
values_of (line.List k) = Number k ∷ []

abbrev pub line_text : Line → List ℕ
line_text l = phrase (letter (verb_of l) ∷ []) (values_of l)
