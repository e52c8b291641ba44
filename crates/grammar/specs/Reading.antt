-- What a line's bytes mean: what they say, or the first fault.
use Rattle.std.specs.Prelude.{◌≡◌, ℕ, suc, ◌+◌, ◌<◌, ◌≤◌, ◌==◌, ◌⊎◌, List, [], ◌∷◌, length, take, if◌then◌else◌, Some, Ok, Err, Result}
use Rattle.std.specs.List.{AllByRecursion, slice_get}
use Rattle.spelling.specs.Letters.{ReadsSet, ReadsDecision}
use Rattle.spelling.specs.Meanings.{NumberOf, AddressOf, PrefixOf, RangeOf}
use Rattle.spelling.specs.Reads.{ReadsForm}
use Rattle.spelling.specs.declared.decision.NoDecision.{NoDecision}
use Rattle.spelling.specs.declared.fault.Fault.{Fault}
use Rattle.spelling.specs.declared.form.TheConstants.{NUMBER, ADDRESS, PREFIX, RANGE}
use Rattle.grammar.specs.Faults.{Misread, misread}
use Rattle.grammar.specs.Limits.{max_line, first_printed, last_printed}
use Rattle.grammar.specs.Lines.{letter, forms, verb_of, values_of}
use Rattle.grammar.specs.Texts.{comma}
use Rattle.grammar.specs.declared.fault.Cause.TheVariants as cause
use Rattle.grammar.specs.declared.fault.LineFault.{LineFault}
use Rattle.grammar.specs.declared.fault.LineProblem.TheVariants as problem
use Rattle.grammar.specs.declared.line.Line.{Line}
use Rattle.grammar.specs.declared.line.Verb.{Verb}
use Rattle.grammar.specs.declared.value.Form.{Form}
use Rattle.grammar.specs.declared.value.Form.TheVariants as form
use Rattle.grammar.specs.declared.value.Value.{Value}
use Rattle.grammar.specs.declared.value.Value.TheVariants.{Number, Decision, Set, Address, Prefix, Range}

abbrev pub Printed : ℕ → Type 0
Printed b = (first_printed ≤ b) × (b ≤ last_printed)

-- few enough bytes, and all printed
abbrev pub Clean : List ℕ → Type 0
Clean text = (length text ≤ max_line) × AllByRecursion Printed text

-- byte i is the first wrong one, of those that a line may have
abbrev pub FirstWrong : List ℕ → ℕ → Type 0
FirstWrong text i = (i < max_line) × AllByRecursion Printed (take i text) × (b : ℕ) × (slice_get text i ≡ Some b) × (Printed b → ⊥)

-- what the line has too many, behind right bytes
abbrev pub GoesOn : List ℕ → Type 0
GoesOn text = (max_line < length text) × AllByRecursion Printed (take max_line text)

-- the byte belongs to the first of these fields
abbrev pub onto : ℕ → List (List ℕ) → List (List ℕ)
onto b [] = (b ∷ []) ∷ []
onto b (f ∷ fs) = (b ∷ f) ∷ fs

-- what stands before, between and behind the commas
abbrev pub fields : List ℕ → List (List ℕ)
fields [] = [] ∷ []
fields (b ∷ text) = if b == comma then [] ∷ fields text else onto b (fields text)

-- the first field is the verb's letter, and these are the others
abbrev pub Begins : List ℕ → Verb → List (List ℕ) → Type 0
Begins text v fs = fields text ≡ (letter v ∷ []) ∷ fs

-- x, read by a reader of its own, as a value; or the reader's fault
abbrev pub ReadAs : {X : Type 0} → (X → Value) → (Result X Fault → Type 0) → Result Value Misread → Type 0
ReadAs say reads (Ok v) = (x : _) × (v ≡ say x) × reads (Ok x)
ReadAs say reads (Err m) = (f : Fault) × (m ≡ misread f) × reads (Err f)

abbrev pub ReadsNumber : ℕ → ℕ → List ℕ → Result Value Misread → Type 0
ReadsNumber least most text (Ok v) = (n : ℕ) × (v ≡ Number n) × ReadsForm NUMBER (NumberOf most) text (Ok n) × (least ≤ n)
ReadsNumber least most text (Err m) =
    ((f : Fault) × (m ≡ misread f) × ReadsForm NUMBER (NumberOf most) text (Err f))
    ⊎ ((m ≡ record { cause = cause.Line problem.TooSmall; byte = 0 }) × (n : ℕ) × ReadsForm NUMBER (NumberOf most) text (Ok n) × (n < least))

abbrev pub ReadsLetter : List ℕ → Result Value Misread → Type 0
ReadsLetter text (Ok v) = (d : _) × (v ≡ Decision d) × ReadsDecision text (Ok d)
ReadsLetter text (Err m) = (e : NoDecision) × (m ≡ record { cause = cause.Line problem.NoDecision; byte = e.byte }) × ReadsDecision text (Err e)

-- what a field of this form means
abbrev pub ReadsField : Form → List ℕ → Result Value Misread → Type 0
ReadsField (form.Number least most) text r = ReadsNumber least most text r
ReadsField form.Decision text r = ReadsLetter text r
ReadsField form.Set text r = ReadAs Set (ReadsSet text) r
ReadsField form.Address text r = ReadAs Address (ReadsForm ADDRESS AddressOf text) r
ReadsField form.Prefix text r = ReadAs Prefix (ReadsForm PREFIX PrefixOf text) r
ReadsField (form.Range most) text r = ReadAs Range (ReadsForm RANGE (RangeOf most) text) r

-- the fields have these forms and values
abbrev pub AllRead : List Form → List (List ℕ) → List Value → Type 0
AllRead [] [] [] = Unit {0}
AllRead [] [] (v ∷ vs) = ⊥
AllRead [] (t ∷ ts) vs = ⊥
AllRead (f ∷ fs) [] vs = ⊥
AllRead (f ∷ fs) (t ∷ ts) [] = ⊥
AllRead (f ∷ fs) (t ∷ ts) (v ∷ vs) = ReadsField f t (Ok v) × AllRead fs ts vs

-- the first fault of the fields, of which the first has this number and starts at this byte
abbrev pub FirstFault : List Form → List (List ℕ) → ℕ → ℕ → LineFault → Type 0
FirstFault [] ts number start e = ⊥
FirstFault (f ∷ fs) [] number start e = ⊥
FirstFault (f ∷ fs) (t ∷ ts) number start e =
    ((m : Misread) × ReadsField f t (Err m) × (e ≡ record { cause = m.cause; field = number; byte = start + m.byte }))
    ⊎ ((v : Value) × ReadsField f t (Ok v) × FirstFault fs ts (suc number) (start + length t + 1) e)

-- what a line's bytes mean. The bytes are judged first, then the letter, the count of fields, and the fields from the left:
-- the second field starts at byte 2
abbrev pub ReadsLine : List ℕ → Result Line LineFault → Type 0
ReadsLine text (Ok l) = Clean text × (ts : List (List ℕ)) × Begins text (verb_of l) ts × AllRead (forms (verb_of l)) ts (values_of l)
ReadsLine text (Err e) =
    (FirstWrong text e.byte × (e ≡ record { cause = cause.Line problem.WrongByte; field = 0; byte = e.byte }))
    ⊎ ((GoesOn text × (e ≡ record { cause = cause.Line problem.TooLong; field = 0; byte = max_line }))
    ⊎ ((Clean text × ((v : Verb) (ts : List (List ℕ)) → Begins text v ts → ⊥) × (e ≡ record { cause = cause.Line problem.NoLetter; field = 1; byte = 0 }))
    ⊎ ((Clean text × (v : Verb) × (ts : List (List ℕ)) × Begins text v ts × (length ts ≡ length (forms v) → ⊥) × (e ≡ record { cause = cause.Line problem.WrongCount; field = 0; byte = 0 }))
    ⊎ (Clean text × (v : Verb) × (ts : List (List ℕ)) × Begins text v ts × (length ts ≡ length (forms v)) × FirstFault (forms v) ts 2 2 e))))
