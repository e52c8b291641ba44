-- The fields of a text: what stands between its commas.
use Rattle.std.proofs.Common.{◌≡◌, ℕ, List, [], ◌∷◌, ◌++◌, map, refl, ap, ◌∙◌, arith}
use Rattle.std.specs.List.{AllByRecursion}
use Rattle.std.proofs.lemmas.Bool.Decides.{nat_tests}
use Rattle.std.proofs.lemmas.List.{append-nil}
use Rattle.grammar.specs.Reading.{onto, fields}
use Rattle.grammar.specs.Texts.{comma, value_text, phrase, behind_commas}
use Rattle.grammar.specs.declared.value.Value.{Value}

-- no byte of the text is a comma
abbrev pub NoComma : List ℕ → Type 0
NoComma text = AllByRecursion (λ b. b ≡ comma → ⊥) text

pub fields_no_comma : (b : ℕ) (text : List ℕ) → (b ≡ comma → ⊥) → fields (b ∷ text) ≡ onto b (fields text)
fields_no_comma b text none = grind (arith, nat_tests)

-- a text without a comma is one field
pub fields_one : (text : List ℕ) → NoComma text → fields text ≡ text ∷ []
fields_one [] none = refl
fields_one (b ∷ text) none = fields_no_comma b text none.0 ∙ ap (onto b) (fields_one text none.1)

-- up to the first comma is the first field
pub fields_comma : (text rest : List ℕ) → NoComma text → fields (text ++ comma ∷ rest) ≡ text ∷ fields rest
fields_comma [] rest none = refl
fields_comma (b ∷ text) rest none = fields_no_comma b (text ++ comma ∷ rest) none.0 ∙ ap (onto b) (fields_comma text rest none.1)

-- a phrase of a word and values has these fields
pub fields_phrase : (word : List ℕ) (vs : List Value) → NoComma word → AllByRecursion (λ v. NoComma (value_text v)) vs → fields (phrase word vs) ≡ word ∷ map value_text vs
fields_phrase word [] none all = ap fields (append-nil word) ∙ fields_one word none
fields_phrase word (v ∷ vs) none all = fields_comma word (value_text v ++ behind_commas vs) none ∙ ap (λ fs. word ∷ fs) (fields_phrase (value_text v) vs all.0 all.1)
