-- A number of a field, with its lower bound.
use Rattle.std.proofs.Common.{◌≡◌, ℕ, ◌+◌, ◌<◌, ◌≤◌, Bool, true, false, cond, nat_lt, List, Ok, Err, Result, sym, refl, ap, ◌∙◌, inl, inr}
use Rattle.std.proofs.lemmas.Bool.{ltb-true, ltb-false, lt-ltb, le-ltb}
use Rattle.spelling.specs.Forms.{Only}
use Rattle.spelling.specs.Meanings.{NumberOf}
use Rattle.spelling.specs.Reads.{ReadsForm}
use Rattle.spelling.specs.declared.fault.Fault.{Fault}
use Rattle.spelling.specs.declared.form.TheConstants.{NUMBER}
use Rattle.grammar.specs.Faults.{Misread, misread}
use Rattle.grammar.specs.Fields.{ReadsPart}
use Rattle.grammar.specs.Places.{placed}
use Rattle.grammar.specs.Reading.{ReadsNumber}
use Rattle.grammar.specs.declared.fault.Cause.TheVariants as cause
use Rattle.grammar.specs.declared.fault.LineFault.{LineFault}
use Rattle.grammar.specs.declared.fault.LineProblem.TheVariants as problem
use Rattle.grammar.specs.declared.part.Part.{Part}
use Rattle.grammar.specs.declared.value.Form.TheVariants as form
use Rattle.grammar.specs.declared.value.Value.{Value}
use Rattle.grammar.specs.declared.value.Value.TheVariants.{Number}
use Rattle.grammar.proofs.FieldRead.{only_said, part_fault, part_value}

abbrev too_small : Misread
too_small = record { cause = cause.Line problem.TooSmall; byte = 0 }

module _ (least : ℕ) where
  -- a number that was read, as a value if it is large enough
  abbrev pub bounded : Result ℕ Fault → Result Value Misread
  bounded (Ok n) = cond (nat_lt n least) (Err too_small) (Ok (Number n))
  bounded (Err f) = Err (misread f)

  module _ (most : ℕ) (text : List ℕ) where
    abbrev Read : Result ℕ Fault → Type 0
    Read r = ReadsForm NUMBER (NumberOf most) text r

    judged : (n : ℕ) → Read (Ok n) → (b : Bool) → nat_lt n least ≡ b → ReadsNumber least most text (cond b (Err too_small) (Ok (Number n)))
    judged n h true small = inr (refl, n, h, ltb-true n least small)
    judged n h false large = (n, refl, h, ltb-false n least large)

    as_number : (r : Result ℕ Fault) → Read r → ReadsNumber least most text (bounded r)
    as_number (Ok n) h = judged n h (nat_lt n least) refl
    as_number (Err f) h = inl (f, refl, h)

    from_number : (q : Result Value Misread) → ReadsNumber least most text q → (r : Result ℕ Fault) × Read r × (q ≡ bounded r)
    from_number (Ok v) (n, is, h, large) = (Ok n, h, ap Ok is ∙ ap (λ b. cond b (Err too_small) (Ok (Number n))) (sym (le-ltb n least large)))
    from_number (Err m) (inl (f, is, h)) = (Err f, h, ap Err is)
    from_number (Err m) (inr (is, n, h, small)) = (Ok n, h, ap Err is ∙ ap (λ b. cond b (Err too_small) (Ok (Number n))) (sym (lt-ltb n least small)))

    pub only_number : (r : Result ℕ Fault) → Only Read r → Only (ReadsNumber least most text) (bounded r)
    only_number r only = only_said Read (ReadsNumber least most text) bounded as_number from_number r only

module _ (least most : ℕ) (p : Part) (r : Result ℕ Fault) (only : Only (Read least most p.text.now) r) where
  abbrev Answer : Result Value LineFault → Type 0
  Answer out = ReadsPart (form.Number least most) p out

  abbrev Found : Result ℕ LineFault → Type 0
  Found q = q ≡ placed misread r p.number p.start

  pub no_number : (out : Result Value LineFault) (e : LineFault) → (d : LineFault) × (out ≡ Err d) × (d ≡ e) → Found (Err e) → Answer out
  no_number out e same found = part_fault misread (bounded least) (form.Number least most) p r (only_number least most p.text.now r only) (λ d. refl) out e same found

  number_read : (n : ℕ) → Found (Ok n) → (small : Bool) → nat_lt n least ≡ small → Answer (placed (λ m. m) (cond small (Err too_small) (Ok (Number n))) p.number p.start)
  number_read n found small is = part_value misread (bounded least) (form.Number least most) p r (only_number least most p.text.now r only) n found _ (ap (λ b. cond b (Err too_small) (Ok (Number n))) is)

  pub small_number : (n : ℕ) → Found (Ok n) → n < least → Answer (Err (record { cause = cause.Line problem.TooSmall; field = p.number; byte = p.start + 0 }))
  small_number n found small = number_read n found true (lt-ltb n least small)

  pub right_number : (n : ℕ) → Found (Ok n) → least ≤ n → Answer (Ok (Number n))
  right_number n found large = number_read n found false (le-ltb n least large)
