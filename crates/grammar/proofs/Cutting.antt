-- The fields of a text, cut off one by one.
use Rattle.std.proofs.Common.{◌≡◌, ◌==◌, ℕ, ◌+◌, ◌<◌, ◌≤◌, Bool, cond, List, [], ◌∷◌, length, take, drop, Some, None, sym, refl, ap, ◌∙◌, arith}
use Rattle.std.specs.List.{slice_split, onto_first, position, position_or_len, count_by}
use Rattle.std.proofs.lemmas.Bool.Decides.{nat_tests}
use Rattle.std.proofs.lemmas.List.Splits.{slice_split_none, slice_split_first, length-slice_split}
use Rattle.std.proofs.lemmas.List.Sums.{fails_before_first}
use Rattle.std.proofs.lemmas.Option.{cond_some}
use Rattle.grammar.specs.Reading.{fields, onto}
use Rattle.grammar.specs.Texts.{comma}

abbrev pub is_comma : ℕ → Bool
is_comma b = b == comma

onto_is : (b : ℕ) (fs : List (List ℕ)) → onto b fs ≡ onto_first b fs
onto_is b [] = refl
onto_is b (f ∷ fs) = refl

-- std's word for them
fields_are : (text : List ℕ) → fields text ≡ slice_split is_comma text
fields_are [] = refl
fields_are (b ∷ text) =
    let rest = fields_are text in
    ap (λ fs. cond (is_comma b) ([] ∷ fs) (onto b fs)) rest ∙ ap (λ fs. cond (is_comma b) ([] ∷ slice_split is_comma text) fs) (onto_is b (slice_split is_comma text))

pub fields_count : (text : List ℕ) → length (fields text) ≡ count_by is_comma text + 1
fields_count text = ap length (fields_are text) ∙ length-slice_split is_comma text

pub one_field : (text : List ℕ) → position is_comma text ≡ None → fields text ≡ text ∷ []
one_field text none =
    let past : length text ≤ position_or_len is_comma text = grind (arith, nat_tests) in
    fields_are text ∙ slice_split_none is_comma text (λ k d within. fails_before_first is_comma text k d (omega arith))

pub first_field : (text : List ℕ) (i : ℕ) → position is_comma text ≡ Some i → (i < length text) × (fields text ≡ take i text ∷ fields (drop (i + 1) text))
first_field text i some =
    let at = cond_some _ _ _ some in
    let within : position_or_len is_comma text < length text = grind (arith, nat_tests, at.0) in
    let cut = slice_split_first is_comma text 0 within in
    let same = at.1 in
    (omega arith, fields_are text ∙ cut ∙ ap (λ k. take k text ∷ slice_split is_comma (drop (k + 1) text)) same ∙ ap (λ fs. take i text ∷ fs) (sym (fields_are (drop (i + 1) text))))
