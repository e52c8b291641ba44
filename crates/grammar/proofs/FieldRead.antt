-- From what a reader of the spelling finds to what a field means: there is one reading only, as the reader has one only.
use Rattle.std.proofs.Common.{◌≡◌, ℕ, ◌+◌, List, Ok, Err, Result, sym, refl, ap, ◌∙◌, subst}
use Rattle.spelling.specs.Forms.{Only}
use Rattle.spelling.specs.Letters.{ReadsDecision}
use Rattle.spelling.specs.declared.decision.NoDecision.{NoDecision}
use Rattle.spelling.specs.declared.fault.Fault.{Fault}
use Rattle.model.specs.declared.rules.Decision.{Decision}
use Rattle.grammar.specs.Faults.{Misread, misread}
use Rattle.grammar.specs.Fields.{field_form, field_part, ReadsPart}
use Rattle.grammar.specs.Places.{no_decision, placed}
use Rattle.grammar.specs.Reading.{ReadAs, ReadsField, ReadsLetter}
use Rattle.grammar.specs.declared.fault.LineFault.{LineFault}
use Rattle.grammar.specs.declared.field.Field.{Field}
use Rattle.grammar.specs.declared.part.Part.{Part}
use Rattle.grammar.specs.declared.value.Form.{Form}
use Rattle.grammar.specs.declared.value.Value.{Value}
use Rattle.grammar.specs.declared.value.Value.TheVariants as value

-- what a reader found, as a value, or as what is wrong with the field
abbrev pub said : {X E : Type 0} → (X → Value) → (E → Misread) → Result X E → Result Value Misread
said say wrong (Ok x) = Ok (say x)
said say wrong (Err e) = Err (wrong e)

-- what is read and said again is the only thing that may be said, if each such thing is said of what is read
pub only_said : {X Y : Type 0} (reads : X → Type 0) (says : Y → Type 0) (say : X → Y) → ((x : X) → reads x → says (say x)) → ((y : Y) → says y → (x : X) × reads x × (y ≡ say x)) → (x : X) → Only reads x → Only says (say x)
only_said reads says say into out x (fits, once) = (into x fits, λ y fit. let (z, read, is) = out y fit in is ∙ ap say (once z read))

module _ {X : Type 0} (say : X → Value) (reads : Result X Fault → Type 0) where
  as_value : (r : Result X Fault) → reads r → ReadAs say reads (said say misread r)
  as_value (Ok x) h = (x, refl, h)
  as_value (Err f) h = (f, refl, h)

  from_value : (q : Result Value Misread) → ReadAs say reads q → (r : Result X Fault) × reads r × (q ≡ said say misread r)
  from_value (Ok v) (x, is, h) = (Ok x, h, ap Ok is)
  from_value (Err m) (f, is, h) = (Err f, h, ap Err is)

  pub only_as : (r : Result X Fault) → Only reads r → Only (ReadAs say reads) (said say misread r)
  only_as r only = only_said reads (ReadAs say reads) (said say misread) as_value from_value r only

module _ (text : List ℕ) where
  as_letter : (r : Result Decision NoDecision) → ReadsDecision text r → ReadsLetter text (said value.Decision no_decision r)
  as_letter (Ok d) h = (d, refl, h)
  as_letter (Err e) h = (e, refl, h)

  from_letter : (q : Result Value Misread) → ReadsLetter text q → (r : Result Decision NoDecision) × ReadsDecision text r × (q ≡ said value.Decision no_decision r)
  from_letter (Ok v) (d, is, h) = (Ok d, h, ap Ok is)
  from_letter (Err m) (e, is, h) = (Err e, h, ap Err is)

  pub only_letter : (r : Result Decision NoDecision) → Only (ReadsDecision text) r → Only (ReadsLetter text) (said value.Decision no_decision r)
  only_letter r only = only_said (ReadsDecision text) (ReadsLetter text) (said value.Decision no_decision) as_letter from_letter r only

-- a reader's answer with its place, from the answer
module _ {X E : Type 0} (wrong : E → Misread) (n s : ℕ) where
  value_placed : (r : Result X E) (x : X) → Ok x ≡ placed wrong r n s → r ≡ Ok x
  value_placed (Ok y) x is = let same : x ≡ y = cc in ap Ok (sym same)
  value_placed (Err d) x is = cc

  fault_placed : (r : Result X E) (e : LineFault) → Err e ≡ placed wrong r n s → (d : E) × (r ≡ Err d) × (◌≡◌ {A = Result Value LineFault} (Err e) (placed (λ m. m) (Err (wrong d)) n s))
  fault_placed (Ok x) e is = cc
  fault_placed (Err d) e is = (d, refl, let same : e ≡ record { cause = (wrong d).cause; field = n; byte = s + (wrong d).byte } = cc in ap Err same)

-- a part of a form, by a reader of which there is one answer only, and by how that answer is said
module _ {X E : Type 0} (wrong : E → Misread) (say : Result X E → Result Value Misread) (g : Form) (p : Part) (r : Result X E) (only : Only (ReadsField g p.text.now) (say r)) where
  abbrev Here : Result Value Misread → Result Value LineFault
  Here q = placed (λ m. m) q p.number p.start

  pub part_fault : ((d : E) → say (Err d) ≡ Err (wrong d)) → (out : Result Value LineFault) (e : LineFault) → (d : LineFault) × (out ≡ Err d) × (d ≡ e) → Err e ≡ placed wrong r p.number p.start
      → ReadsPart g p out
  part_fault faults out e (d, is, same) found =
      let (f, read, here) = fault_placed wrong p.number p.start r e found in
      (say r, only, is ∙ ap Err same ∙ here ∙ sym (ap Here (ap say read ∙ faults f)))

  pub part_value : (x : X) → Ok x ≡ placed wrong r p.number p.start → (q : Result Value Misread) → say (Ok x) ≡ q → ReadsPart g p (Here q)
  part_value x found q is = (say r, only, sym (ap Here (ap say (value_placed wrong p.number p.start r x found) ∙ is)))

-- a field by its form and its part
pub of_field : {r : Result Value LineFault} (f g : Field) → f ≡ g → ReadsPart (field_form g) (field_part g) r → ReadsPart (field_form f) (field_part f) r
of_field {r} f g is h = subst (λ k. ReadsPart (field_form k) (field_part k) r) (sym is) h

pub as_part : {r : Result Value LineFault} (f g : Form) (p q : Part) → f ≡ g → p ≡ q → ReadsPart f p r → ReadsPart g q r
as_part {r} f g p q form part h = subst (λ k. ReadsPart k q r) form (subst (λ k. ReadsPart f k r) part h)
