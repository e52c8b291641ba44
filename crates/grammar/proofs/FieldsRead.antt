-- Fields read from the left: where each has one reading only, all have one only.
use Rattle.std.proofs.Common.{◌≡◌, ℕ, suc, ◌+◌, List, [], ◌∷◌, ◌++◌, length, Option, Some, None, MatchOption, IfSome, Ok, Err, Result, sym, refl, ap, ap₂, ◌∙◌, subst, inl, inr, append_assoc, arith}
use Rattle.spelling.specs.Forms.{Only}
use Rattle.grammar.specs.Faults.{Misread}
use Rattle.grammar.specs.Fields.{ReadsPart, ReadsFields, ReadsBehind, parts_of}
use Rattle.grammar.specs.Reading.{fields, ReadsField, FirstFault}
use Rattle.grammar.specs.declared.fault.LineFault.{LineFault}
use Rattle.grammar.specs.declared.part.Part.{Part}
use Rattle.grammar.specs.declared.value.Form.{Form}
use Rattle.grammar.specs.declared.value.Value.{Value}
use Rattle.grammar.proofs.Cutting.{fields_count}

-- what is read behind these values, with them
abbrev pub after : List Value → Result (List Value) LineFault → Result (List Value) LineFault
after vs (Ok ws) = Ok (vs ++ ws)
after vs (Err e) = Err e

pub after_both : (vs ws : List Value) (r : Result (List Value) LineFault) → after vs (after ws r) ≡ after (vs ++ ws) r
after_both vs ws (Ok us) = ap Ok (sym (append_assoc vs ws us))
after_both vs ws (Err e) = refl

-- the fault of a field, in the field of this number that starts at this byte
abbrev at : Misread → ℕ → ℕ → LineFault
at m number start = record { cause = m.cause; field = number; byte = start + m.byte }

pub only_nothing : Only (ReadsFields [] [] 0 0) (Ok [])
only_nothing = (tt, λ q fit. nothing q fit) where
  nothing : (q : Result (List Value) LineFault) → ReadsFields [] [] 0 0 q → q ≡ Ok []
  nothing (Ok []) fit = refl
  nothing (Ok (v ∷ vs)) fit = absurd fit
  nothing (Err e) fit = absurd fit

module _ (f : Form) (fs : List Form) (t : List ℕ) (ts : List (List ℕ)) (number start : ℕ) where
  abbrev All : Result (List Value) LineFault → Type 0
  All q = ReadsFields (f ∷ fs) (t ∷ ts) number start q

  abbrev Others : Result (List Value) LineFault → Type 0
  Others q = ReadsFields fs ts (suc number) (start + length t + 1) q

  module _ (m : Misread) (only : Only (ReadsField f t) (Err m)) where
    no_value : {P : Type 0} (v : Value) → ReadsField f t (Ok v) → P
    no_value v fit = let same = only.1 (Ok v) fit in cc

    no_other : (q : Result (List Value) LineFault) → All q → q ≡ Err (at m number start)
    no_other (Ok []) fit = absurd fit
    no_other (Ok (v ∷ vs)) fit = no_value v fit.0
    no_other (Err e) (inl (n, fit, is)) = let same : ◌≡◌ {A = Result Value Misread} (Err n) (Err m) = only.1 (Err n) fit in let e' : n ≡ m = cc in ap Err (is ∙ ap (λ k. at k number start) e')
    no_other (Err e) (inr (v, fit, rest)) = no_value v fit

    pub only_fault : Only All (Err (at m number start))
    only_fault = (inl (m, only.0, refl), no_other)

  module _ (v : Value) (only : Only (ReadsField f t) (Ok v)) where
    with_value : (r : Result (List Value) LineFault) → Others r → All (after (v ∷ []) r)
    with_value (Ok vs) fit = (only.0, fit)
    with_value (Err e) fit = inr (v, only.0, fit)

    without_value : (q : Result (List Value) LineFault) → All q → (r : Result (List Value) LineFault) × Others r × (q ≡ after (v ∷ []) r)
    without_value (Ok []) fit = absurd fit
    without_value (Ok (w ∷ ws)) fit = let same = only.1 (Ok w) fit.0 in let e : w ≡ v = cc in (Ok ws, fit.1, ap (λ x. Ok (x ∷ ws)) e)
    without_value (Err e) (inl (n, fit, is)) = let same = only.1 (Err n) fit in cc
    without_value (Err e) (inr (w, fit, rest)) = (Err e, rest, refl)

    pub only_value : (r : Result (List Value) LineFault) → Only Others r → Only All (after (v ∷ []) r)
    only_value r (fits, once) = (with_value r fits, λ q fit. let (s, rest, is) = without_value q fit in is ∙ ap (after (v ∷ [])) (once s rest))

-- with nothing left, the place of the next field does not matter
no_field : {P : Type 0} (fs : List Form) (number start : ℕ) (e : LineFault) → FirstFault fs [] number start e → P
no_field [] number start e fit = absurd fit
no_field (f ∷ fs) number start e fit = absurd fit

pub only_none : (fs : List Form) (number start : ℕ) (r : Result (List Value) LineFault) → Only (ReadsFields fs [] 0 0) r → Only (ReadsFields fs [] number start) r
only_none fs number start (Err e) only = no_field fs 0 0 e only.0
only_none fs number start (Ok vs) only = (only.0, λ q fit. same q fit) where
  same : (q : Result (List Value) LineFault) → ReadsFields fs [] number start q → q ≡ Ok vs
  same (Ok ws) fit = only.1 (Ok ws) fit
  same (Err e) fit = no_field fs number start e fit

only_at : {fs gs : List Form} {ts us : List (List ℕ)} (number start : ℕ) (r : Result (List Value) LineFault) → fs ≡ gs → ts ≡ us → Only (ReadsFields gs us number start) r → Only (ReadsFields fs ts number start) r
only_at {fs} {gs} {ts} {us} number start r same alike only = subst (λ xs. Only (ReadsFields xs ts number start) r) (sym same) (subst (λ xs. Only (ReadsFields gs xs number start) r) (sym alike) only)

found_fault : (f : Form) (p : Part) (e : LineFault) → ReadsPart f p (Err e) → (m : Misread) × Only (ReadsField f p.text.now) (Err m) × (e ≡ at m p.number p.start)
found_fault f p e (Ok v, only, is) = cc
found_fault f p e (Err m, only, is) = (m, only, let same : e ≡ at m p.number p.start = cc in same)

found_value : (f : Form) (p : Part) (v : Value) → ReadsPart f p (Ok v) → Only (ReadsField f p.text.now) (Ok v)
found_value f p v (Ok w, only, is) = let same : w ≡ v = cc in subst (λ x. Only (ReadsField f p.text.now) (Ok x)) same only
found_value f p v (Err m, only, is) = cc

-- with no form and no field left, there are no values
pub all_read : (fs : List Form) (left : Option Part) → fs ≡ [] → length (parts_of left) ≡ 0 → Only (ReadsBehind fs left) (Ok [])
all_read fs None same none = only_at 0 0 (Ok []) same refl only_nothing
all_read fs (Some p) same none = let some = fields_count p.text.now in absurd (omega arith)

-- what is left of a line, cut at its first comma
module _ (p first : Part) (here : (first.number ≡ p.number) × (first.start ≡ p.start)) where
  abbrev Cut : Option Part → Type 0
  Cut rest = MatchOption rest (fields p.text.now ≡ first.text.now ∷ []) (λ r. fields p.text.now ≡ first.text.now ∷ fields r.text.now)

  abbrev Next : Option Part → Type 0
  Next rest = IfSome rest (λ r. (r.number ≡ suc p.number) × (r.start ≡ p.start + length first.text.now + 1))

  pub parts_cut : (rest : Option Part) → Cut rest → fields p.text.now ≡ first.text.now ∷ parts_of rest
  parts_cut None h = h
  parts_cut (Some r) h = h

  next_read : (fs : List Form) (rest : Option Part) → Next rest → (r : Result (List Value) LineFault) → Only (ReadsBehind fs rest) r → Only (ReadsFields fs (parts_of rest) (suc p.number) (p.start + length first.text.now + 1)) r
  next_read fs None next r only = only_none fs _ _ r only
  next_read fs (Some q) next r only = subst (λ n. Only (ReadsFields fs (fields q.text.now) n (p.start + length first.text.now + 1)) r) next.0 (subst (λ s. Only (ReadsFields fs (fields q.text.now) q.number s) r) next.1 only)

  module _ (f : Form) (fs gs : List Form) (whole : gs ≡ f ∷ fs) (rest : Option Part) (cut : Cut rest) where
    pub fault_found : (e : LineFault) → ReadsPart f first (Err e) → Only (ReadsBehind gs (Some p)) (Err e)
    fault_found e found =
        let (m, only, is) = found_fault f first e found in
        let same : e ≡ at m p.number p.start = is ∙ ap₂ (at m) here.0 here.1 in
        subst (λ d. Only (ReadsBehind gs (Some p)) (Err d)) (sym same) (only_at p.number p.start _ whole (parts_cut rest cut) (only_fault f fs first.text.now (parts_of rest) p.number p.start m only))

    pub value_found : Next rest → (v : Value) → ReadsPart f first (Ok v) → (r : Result (List Value) LineFault) → Only (ReadsBehind fs rest) r → Only (ReadsBehind gs (Some p)) (after (v ∷ []) r)
    value_found next v found r only =
        only_at p.number p.start _ whole (parts_cut rest cut) (only_value f fs first.text.now (parts_of rest) p.number p.start v (found_value f first v found) r (next_read fs rest next r only))
