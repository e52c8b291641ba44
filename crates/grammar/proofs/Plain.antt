-- The texts of fields are printed and have no comma.
use Rattle.std.proofs.Common.{◌≡◌, ℕ, ◌≤◌, List, [], ◌∷◌, ◌++◌, map, Ok, sym, subst, inl, inr, arith}
use Rattle.std.specs.List.{AllByRecursion}
use Rattle.std.specs.Str.Parse.{AllDigits}
use Rattle.std.proofs.lemmas.Str.Parse.{digit_from_value}
use Rattle.model.specs.declared.rules.Decision.{Decision}
use Rattle.model.specs.declared.rules.Decision.TheVariants.{Accept, Discard}
use Rattle.spelling.specs.Forms.{mark_byte, Spells}
use Rattle.spelling.specs.Letters.{IsHexDigit, decision_text}
use Rattle.spelling.specs.declared.form.Mark.{Mark}
use Rattle.spelling.specs.declared.form.Mark.TheVariants.{Dot, Slash, Dash}
use Rattle.spelling.specs.declared.form.TheConstants.{NUMBER, ADDRESS, PREFIX, RANGE}
use Rattle.grammar.specs.Reading.{Printed, ReadsField, AllRead}
use Rattle.grammar.specs.Texts.{comma, behind_commas, phrase, value_text}
use Rattle.grammar.specs.declared.value.Form.{Form}
use Rattle.grammar.specs.declared.value.Form.TheVariants as form
use Rattle.grammar.specs.declared.value.Value.{Value}
use Rattle.grammar.proofs.Fields.{NoComma}

abbrev pub IsPlain : ℕ → Type 0
IsPlain b = Printed b × (b ≡ comma → ⊥)

abbrev pub AllPlain : List ℕ → Type 0
AllPlain text = AllByRecursion IsPlain text

pub plain : (b : ℕ) → 45 ≤ b → b ≤ 126 → IsPlain b
plain b low high = ((omega arith, omega arith), λ e. omega arith)

all_both : (P : ℕ → Type 0) (xs ys : List ℕ) → AllByRecursion P xs → AllByRecursion P ys → AllByRecursion P (xs ++ ys)
all_both P [] ys a b = b
all_both P (x ∷ xs) ys a b = (a.0, all_both P xs ys a.1 b)

digits_plain : (text : List ℕ) → AllDigits 10 text → AllPlain text
digits_plain [] all = tt
digits_plain (b ∷ text) all = let digit = digit_from_value b all.0 in (plain b (omega arith) (omega arith), digits_plain text all.1)

mark_plain : (m : Mark) → IsPlain (mark_byte m)
mark_plain Dot = plain 46 (omega arith) (omega arith)
mark_plain Slash = plain 47 (omega arith) (omega arith)
mark_plain Dash = plain 45 (omega arith) (omega arith)

spells_plain : (marks : List Mark) (ns text : List ℕ) → Spells marks ns text → AllPlain text
spells_plain [] ns text (number, _) = digits_plain text number.2
spells_plain (m ∷ marks) ns text (digits, rest, later, is, number, _, more) =
    subst AllPlain (sym is) (all_both IsPlain digits (mark_byte m ∷ rest) (digits_plain digits number.2) (mark_plain m, spells_plain marks later rest more))

hex_plain : (b : ℕ) → IsHexDigit b → IsPlain b
hex_plain b (inl h) = plain b (omega arith) (omega arith)
hex_plain b (inr h) = plain b (omega arith) (omega arith)

mask_plain : (text : List ℕ) → AllByRecursion IsHexDigit text → AllPlain text
mask_plain [] all = tt
mask_plain (b ∷ text) all = (hex_plain b all.0, mask_plain text all.1)

decision_plain : (d : Decision) → AllPlain (decision_text d)
decision_plain Accept = (plain 97 (omega arith) (omega arith), tt)
decision_plain Discard = (plain 100 (omega arith) (omega arith), tt)

-- whatever is read as a field
pub field_plain : (f : Form) (text : List ℕ) (v : Value) → ReadsField f text (Ok v) → AllPlain text
field_plain (form.Number least most) text v (n, is, (ns, spells, _), low) = spells_plain NUMBER ns text spells
field_plain form.Decision text v (d, is, same) = subst AllPlain (sym same) (decision_plain d)
field_plain form.Set text v (x, is, (mask, _)) = mask_plain text mask.1
field_plain form.Address text v (a, is, (ns, spells, _)) = spells_plain ADDRESS ns text spells
field_plain form.Prefix text v (x, is, (ns, spells, _)) = spells_plain PREFIX ns text spells
field_plain (form.Range most) text v (x, is, (ns, spells, _)) = spells_plain RANGE ns text spells

pub no_comma : (text : List ℕ) → AllPlain text → NoComma text
no_comma [] all = tt
no_comma (b ∷ text) all = (all.0.1, no_comma text all.1)

printed : (text : List ℕ) → AllPlain text → AllByRecursion Printed text
printed [] all = tt
printed (b ∷ text) all = (all.0.0, printed text all.1)

-- the values are read as fields, so their texts are plain
pub values_plain : (fs : List Form) (vs : List Value) → AllRead fs (map value_text vs) vs → AllByRecursion (λ v. AllPlain (value_text v)) vs
values_plain [] [] read = tt
values_plain [] (v ∷ vs) read = absurd read
values_plain (f ∷ fs) [] read = absurd read
values_plain (f ∷ fs) (v ∷ vs) read = (field_plain f (value_text v) v read.0, values_plain fs vs read.1)

pub values_no_comma : (vs : List Value) → AllByRecursion (λ v. AllPlain (value_text v)) vs → AllByRecursion (λ v. NoComma (value_text v)) vs
values_no_comma [] all = tt
values_no_comma (v ∷ vs) all = (no_comma (value_text v) all.0, values_no_comma vs all.1)

behind_printed : (vs : List Value) → AllByRecursion (λ v. AllPlain (value_text v)) vs → AllByRecursion Printed (behind_commas vs)
behind_printed [] all = tt
behind_printed (v ∷ vs) all = ((omega arith, omega arith), all_both Printed (value_text v) (behind_commas vs) (printed (value_text v) all.0) (behind_printed vs all.1))

pub phrase_printed : (word : List ℕ) (vs : List Value) → AllPlain word → AllByRecursion (λ v. AllPlain (value_text v)) vs → AllByRecursion Printed (phrase word vs)
phrase_printed word vs w all = all_both Printed word (behind_commas vs) (printed word w) (behind_printed vs all)
