use Rattle.std.proofs.Common.{refl}
use Rattle.std.proofs.lemmas.Result.{err_from_is_err_and}
use Rattle.spelling.specs.Letters.{ReadsSet}
use Rattle.spelling.specs.Meanings.{AddressOf, PrefixOf, RangeOf}
use Rattle.spelling.specs.Reads.{ReadsForm}
use Rattle.spelling.specs.declared.form.TheConstants.{ADDRESS, PREFIX, RANGE}
use Rattle.grammar.specs.Faults.{misread}
use Rattle.grammar.specs.Places.{no_decision}
use Rattle.grammar.specs.declared.value.Form.TheVariants as form
use Rattle.grammar.specs.declared.value.Value.TheVariants.{Decision, Set, Address, Prefix, Range}
use Rattle.grammar.proofs.FieldRead.{said, only_as, only_letter, part_fault, part_value, of_field}
use Rattle.grammar.proofs.field.Field.read.Goals as goal

pub returns-in_err-in_field-in-Decision : goal.returns-in_err-in_field-in-Decision
returns-in_err-in_field-in-Decision c =
    let only = only_letter c.in-Decision.part.text.now c.read_decision.result c.read_decision.ensures in
    let residual = err_from_is_err_and _ c.from_residual.ensures.1 in
    of_field _ _ c.in-Decision.is (part_fault no_decision (said Decision no_decision) form.Decision c.in-Decision.part _ only (λ e. refl) _ _ residual c.in_err-in_field-in-Decision.ensures)

pub returns-in_ok-in_field-in-Decision : goal.returns-in_ok-in_field-in-Decision
returns-in_ok-in_field-in-Decision c =
    let only = only_letter c.in-Decision.part.text.now c.read_decision.result c.read_decision.ensures in
    of_field _ _ c.in-Decision.is (part_value no_decision (said Decision no_decision) form.Decision c.in-Decision.part _ only _ c.in_ok-in_field-in-Decision.ensures _ refl)

pub returns-in_err-in_field-in-Set : goal.returns-in_err-in_field-in-Set
returns-in_err-in_field-in-Set c =
    let only = only_as Set (ReadsSet c.in-Set.part.text.now) c.read_set.result c.read_set.ensures in
    let residual = err_from_is_err_and _ c.from_residual-in_err-in_field-in-Set.ensures.1 in
    of_field _ _ c.in-Set.is (part_fault misread (said Set misread) form.Set c.in-Set.part _ only (λ e. refl) _ _ residual c.in_err-in_field-in-Set.ensures)

pub returns-in_ok-in_field-in-Set : goal.returns-in_ok-in_field-in-Set
returns-in_ok-in_field-in-Set c =
    let only = only_as Set (ReadsSet c.in-Set.part.text.now) c.read_set.result c.read_set.ensures in
    of_field _ _ c.in-Set.is (part_value misread (said Set misread) form.Set c.in-Set.part _ only _ c.in_ok-in_field-in-Set.ensures _ refl)

pub returns-in_err-in_field-in-Address : goal.returns-in_err-in_field-in-Address
returns-in_err-in_field-in-Address c =
    let only = only_as Address (ReadsForm ADDRESS AddressOf c.in-Address.part.text.now) c.read_address.result c.read_address.ensures in
    let residual = err_from_is_err_and _ c.from_residual-in_err-in_field-in-Address.ensures.1 in
    of_field _ _ c.in-Address.is (part_fault misread (said Address misread) form.Address c.in-Address.part _ only (λ e. refl) _ _ residual c.in_err-in_field-in-Address.ensures)

pub returns-in_ok-in_field-in-Address : goal.returns-in_ok-in_field-in-Address
returns-in_ok-in_field-in-Address c =
    let only = only_as Address (ReadsForm ADDRESS AddressOf c.in-Address.part.text.now) c.read_address.result c.read_address.ensures in
    of_field _ _ c.in-Address.is (part_value misread (said Address misread) form.Address c.in-Address.part _ only _ c.in_ok-in_field-in-Address.ensures _ refl)

pub returns-in_err-in_field-in-Prefix : goal.returns-in_err-in_field-in-Prefix
returns-in_err-in_field-in-Prefix c =
    let only = only_as Prefix (ReadsForm PREFIX PrefixOf c.in-Prefix.part.text.now) c.read_prefix.result c.read_prefix.ensures in
    let residual = err_from_is_err_and _ c.from_residual-in_err-in_field-in-Prefix.ensures.1 in
    of_field _ _ c.in-Prefix.is (part_fault misread (said Prefix misread) form.Prefix c.in-Prefix.part _ only (λ e. refl) _ _ residual c.in_err-in_field-in-Prefix.ensures)

pub returns-in_ok-in_field-in-Prefix : goal.returns-in_ok-in_field-in-Prefix
returns-in_ok-in_field-in-Prefix c =
    let only = only_as Prefix (ReadsForm PREFIX PrefixOf c.in-Prefix.part.text.now) c.read_prefix.result c.read_prefix.ensures in
    of_field _ _ c.in-Prefix.is (part_value misread (said Prefix misread) form.Prefix c.in-Prefix.part _ only _ c.in_ok-in_field-in-Prefix.ensures _ refl)

pub returns-in_err-in_field-in-Range : goal.returns-in_err-in_field-in-Range
returns-in_err-in_field-in-Range c =
    let only = only_as Range (ReadsForm RANGE (RangeOf c.in-Range.most) c.in-Range.part.text.now) c.read_range.result c.read_range.ensures in
    let residual = err_from_is_err_and _ c.from_residual-in_err-in_field-in-Range.ensures.1 in
    of_field _ _ c.in-Range.is (part_fault misread (said Range misread) (form.Range c.in-Range.most) c.in-Range.part _ only (λ e. refl) _ _ residual c.in_err-in_field-in-Range.ensures)

pub returns-in_ok-in_field-in-Range : goal.returns-in_ok-in_field-in-Range
returns-in_ok-in_field-in-Range c =
    let only = only_as Range (ReadsForm RANGE (RangeOf c.in-Range.most) c.in-Range.part.text.now) c.read_range.result c.read_range.ensures in
    of_field _ _ c.in-Range.is (part_value misread (said Range misread) (form.Range c.in-Range.most) c.in-Range.part _ only _ c.in_ok-in_field-in-Range.ensures _ refl)
