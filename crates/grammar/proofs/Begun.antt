-- A line behind its letter.
use Rattle.std.proofs.Common.{◌≡◌, ℕ, ◌≤◌, List, [], ◌∷◌, length, Option, Some, None, IfSome, Ok, Result, sym, refl, ap, subst, arith}
use Rattle.std.specs.List.{AllByRecursion, count_by}
use Rattle.std.specs.Option.{IsSome}
use Rattle.spelling.specs.Forms.{Only}
use Rattle.grammar.specs.Built.{Makes}
use Rattle.grammar.specs.Fields.{ReadsFields, ReadsBehind, parts_of}
use Rattle.grammar.specs.Lines.{forms}
use Rattle.grammar.specs.Sayable.{InForm, InForms}
use Rattle.grammar.specs.Reading.{fields, Begins, ReadsField, AllRead}
use Rattle.grammar.specs.declared.fault.LineFault.{LineFault}
use Rattle.grammar.specs.declared.line.Line.{Line}
use Rattle.grammar.specs.declared.line.Verb.{Verb}
use Rattle.grammar.specs.declared.part.Part.{Part}
use Rattle.grammar.specs.declared.value.Form.{Form}
use Rattle.grammar.specs.declared.value.Form.TheVariants as form
use Rattle.grammar.specs.declared.value.Value.{Value}
use Rattle.grammar.proofs.Cutting.{is_comma, fields_count}
use Rattle.grammar.proofs.FieldsRead.{only_none}

pub fields_behind : (text : List ℕ) (v : Verb) (ts : List (List ℕ)) → Begins text v ts → length ts ≡ count_by is_comma text
fields_behind text v ts begins = let count = fields_count text in let more = ap length begins in omega arith

-- the first field behind the letter is the second, and starts at byte 2
pub from_second : (fs gs : List Form) (rest : Option Part) (r : Result (List Value) LineFault) → fs ≡ gs → IfSome rest (λ p. (p.number ≡ 2) × (p.start ≡ 2)) → Only (ReadsBehind fs rest) r → Only (ReadsFields gs (parts_of rest) 2 2) r
from_second fs gs None r same place only = subst (λ xs. Only (ReadsFields xs [] 2 2) r) same (only_none fs 2 2 r only)
from_second fs gs (Some p) r same (number, start) only =
    subst (λ xs. Only (ReadsFields xs (fields p.text.now) 2 2) r) same (subst (λ n. Only (ReadsFields fs (fields p.text.now) n 2) r) number (subst (λ s. Only (ReadsFields fs (fields p.text.now) p.number s) r) start only))

-- a value that is read is within the bounds of its form
in_form : (f : Form) (t : List ℕ) (v : Value) → ReadsField f t (Ok v) → InForm f v
in_form (form.Number least most) t v (n, is, (ns, spells, meant), large) = subst (InForm (form.Number least most)) (sym is) (large, (subst (AllByRecursion (λ m. m ≤ most)) meant.0 meant.1).0)
in_form form.Decision t v (d, is, read) = subst (InForm form.Decision) (sym is) tt
in_form form.Set t v (x, is, read) = subst (InForm form.Set) (sym is) tt
in_form form.Address t v (a, is, read) = subst (InForm form.Address) (sym is) tt
in_form form.Prefix t v (x, is, read) = subst (InForm form.Prefix) (sym is) tt
in_form (form.Range most) t v (x, is, (ns, spells, meant)) = subst (InForm (form.Range most)) (sym is) (subst (AllByRecursion (λ m. m ≤ most)) meant.0 meant.1).1.0

pub in_forms : (fs : List Form) (ts : List (List ℕ)) (vs : List Value) → AllRead fs ts vs → InForms fs vs
in_forms [] [] [] all = tt
in_forms [] [] (v ∷ vs) all = absurd all
in_forms [] (t ∷ ts) vs all = absurd all
in_forms (f ∷ fs) [] vs all = absurd all
in_forms (f ∷ fs) (t ∷ ts) [] all = absurd all
in_forms (f ∷ fs) (t ∷ ts) (v ∷ vs) all = (in_form f t v all.0, in_forms fs ts vs all.1)

pub made : (v : Verb) (vs : List Value) (o : Option Line) → Makes v vs o → InForms (forms v) vs → IsSome o
made v vs (Some l) makes have = refl
made v vs None makes have = absurd (makes have)
