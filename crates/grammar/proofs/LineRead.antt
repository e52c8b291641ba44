-- A line says one thing only.
use Rattle.std.proofs.Common.{◌≡◌, ℕ, zero, suc, ◌<◌, ◌⊎◌, List, [], ◌∷◌, length, take, Some, Ok, Err, Result, sym, refl, ap, ◌∙◌, subst, inl, inr, arith}
use Rattle.std.specs.List.{AllByRecursion, slice_get}
use Rattle.std.proofs.lemmas.Bool.{cases_order}
use Rattle.std.proofs.lemmas.List.{take_all}
use Rattle.std.proofs.lemmas.Option.{slice_get_within}
use Rattle.spelling.specs.Forms.{Only}
use Rattle.grammar.specs.Fields.{ReadsFields}
use Rattle.grammar.specs.Limits.{max_line}
use Rattle.grammar.specs.Lines.{letter, forms, verb_of, values_of}
use Rattle.grammar.specs.Reading.{Printed, Clean, FirstWrong, GoesOn, Begins, AllRead, FirstFault, ReadsLine}
use Rattle.grammar.specs.Steps.{Unclean}
use Rattle.grammar.specs.declared.fault.Cause.TheVariants as cause
use Rattle.grammar.specs.declared.fault.LineFault.{LineFault}
use Rattle.grammar.specs.declared.fault.LineProblem.TheVariants as problem
use Rattle.grammar.specs.declared.line.Line.{Line}
use Rattle.grammar.specs.declared.line.Verb.{Verb}
use Rattle.grammar.specs.declared.line.Verb.TheVariants.{Heading, Attach, Branch, Give, Take, Place, Alter, Lift, Stand, Withdraw, Ask, Send, List as Listing}
use Rattle.grammar.specs.declared.value.Form.{Form}
use Rattle.grammar.specs.declared.value.Value.{Value}
use Rattle.grammar.proofs.LinesOnce.{same_line}

printed_at : (text : List ℕ) (i n b : ℕ) → i < n → AllByRecursion Printed (take n text) → slice_get text i ≡ Some b → Printed b
printed_at [] i n b less all is = cc
printed_at (x ∷ text) i zero b less all is = absurd (omega arith)
printed_at (x ∷ text) zero (suc n) b less all is = let same : x ≡ b = cc in subst Printed same all.0
printed_at (x ∷ text) (suc i) (suc n) b less all is = printed_at text i n b (omega arith) all.1 is

same_letter : (v w : Verb) → letter v ≡ letter w → v ≡ w
same_letter Heading Heading e = refl
same_letter Attach Attach e = refl
same_letter Branch Branch e = refl
same_letter Give Give e = refl
same_letter Take Take e = refl
same_letter Place Place e = refl
same_letter Alter Alter e = refl
same_letter Lift Lift e = refl
same_letter Stand Stand e = refl
same_letter Withdraw Withdraw e = refl
same_letter Ask Ask e = refl
same_letter Send Send e = refl
same_letter Listing Listing e = refl
same_letter v w e = absurd (omega arith)

all_count : (fs : List Form) (ts : List (List ℕ)) (vs : List Value) → AllRead fs ts vs → length ts ≡ length fs
all_count [] [] [] all = refl
all_count [] [] (v ∷ vs) all = absurd all
all_count [] (t ∷ ts) vs all = absurd all
all_count (f ∷ fs) [] vs all = absurd all
all_count (f ∷ fs) (t ∷ ts) [] all = absurd all
all_count (f ∷ fs) (t ∷ ts) (v ∷ vs) all = ap suc (all_count fs ts vs all.1)

module _ (text : List ℕ) where
  clean_right : {P : Type 0} (i : ℕ) → Clean text → FirstWrong text i → P
  clean_right i (few, all) (less, before, b, is, wrong) =
      absurd (wrong (printed_at text i (length text) b (slice_get_within text i b is) (subst (AllByRecursion Printed) (sym (take_all (length text) text (omega arith))) all) is))

  pub clean_never : {P : Type 0} (e : LineFault) → Clean text → Unclean text e → P
  clean_never e clean (inl (wrong, is)) = clean_right e.byte clean wrong
  clean_never e clean (inr (long, is)) = let few = clean.0 in let many = long.0 in absurd (omega arith)

  not_sooner : {P : Type 0} (i j : ℕ) → FirstWrong text i → FirstWrong text j → i < j → P
  not_sooner i j (less, before, b, is, wrong) (fewer, all, c, at, bad) sooner = absurd (wrong (printed_at text i j b sooner all is))

  one_wrong : (i j : ℕ) → FirstWrong text i → FirstWrong text j → i ≡ j
  one_wrong i j a b = elim (cases_order i j) [
    | inl same ↦ same
    | inr (inl less) ↦ not_sooner i j a b less
    | inr (inr less) ↦ not_sooner j i b a less
  ]

  wrong_first : {P : Type 0} (i : ℕ) → FirstWrong text i → GoesOn text → P
  wrong_first i (less, before, b, is, wrong) (many, all) = absurd (wrong (printed_at text i max_line b less all is))

  unclean_once : (d e : LineFault) → Unclean text d → Unclean text e → d ≡ e
  unclean_once d e (inl (wrong, is)) (inl (bad, same)) = is ∙ ap (λ i. record { cause = cause.Line problem.WrongByte; field = 0; byte = i }) (one_wrong d.byte e.byte wrong bad) ∙ sym same
  unclean_once d e (inl (wrong, is)) (inr (long, same)) = wrong_first d.byte wrong long
  unclean_once d e (inr (long, is)) (inl (wrong, same)) = wrong_first e.byte wrong long
  unclean_once d e (inr (long, is)) (inr (more, same)) = is ∙ sym same

  pub only_unclean : (e : LineFault) → Unclean text e → Only (ReadsLine text) (Err e)
  only_unclean e found = (fits found, once) where
    fits : Unclean text e → ReadsLine text (Err e)
    fits (inl wrong) = inl wrong
    fits (inr long) = inr (inl long)

    once : (q : Result Line LineFault) → ReadsLine text q → q ≡ Err e
    once (Ok l) fit = clean_never e fit.0 found
    once (Err d) (inl wrong) = ap Err (unclean_once d e (inl wrong) found)
    once (Err d) (inr (inl long)) = ap Err (unclean_once d e (inr long) found)
    once (Err d) (inr (inr (inl fit))) = clean_never e fit.0 found
    once (Err d) (inr (inr (inr (inl fit)))) = clean_never e fit.0 found
    once (Err d) (inr (inr (inr (inr fit)))) = clean_never e fit.0 found

  module _ (clean : Clean text) where
    abbrev Unnamed : LineFault
    Unnamed = record { cause = cause.Line problem.NoLetter; field = 1; byte = 0 }

    pub only_unnamed : ((v : Verb) (ts : List (List ℕ)) → Begins text v ts → ⊥) → Only (ReadsLine text) (Err Unnamed)
    only_unnamed none = (inr (inr (inl (clean, none, refl))), once) where
      once : (q : Result Line LineFault) → ReadsLine text q → q ≡ Err Unnamed
      once (Ok l) fit = absurd (none (verb_of l) fit.1 fit.2)
      once (Err d) (inl wrong) = clean_never d clean (inl wrong)
      once (Err d) (inr (inl long)) = clean_never d clean (inr long)
      once (Err d) (inr (inr (inl fit))) = ap Err fit.2
      once (Err d) (inr (inr (inr (inl fit)))) = absurd (none fit.1 fit.2 fit.3)
      once (Err d) (inr (inr (inr (inr fit)))) = absurd (none fit.1 fit.2 fit.3)

    module _ (v : Verb) (ts : List (List ℕ)) (begins : Begins text v ts) where
      -- the same of any other verb and fields with which the text may begin
      here : (P : Verb → List (List ℕ) → Type 0) (w : Verb) (us : List (List ℕ)) → Begins text w us → P w us → P v ts
      here P w us begin p =
          let same = same_letter w v (let e : letter w ≡ letter v = cc in e) in
          let rest : us ≡ ts = cc in
          subst (P v) rest (subst (λ x. P x us) same p)

      abbrev Uncounted : LineFault
      Uncounted = record { cause = cause.Line problem.WrongCount; field = 0; byte = 0 }

      -- what can be read behind the letter
      abbrev Rest : Result Line LineFault → Verb → List (List ℕ) → Type 0
      Rest (Ok l) w us = (verb_of l ≡ w) × AllRead (forms w) us (values_of l)
      Rest (Err e) w us = ((length us ≡ length (forms w) → ⊥) × (e ≡ Uncounted)) ⊎ ((length us ≡ length (forms w)) × FirstFault (forms w) us 2 2 e)

      rest_of : (q : Result Line LineFault) → ReadsLine text q → Rest q v ts
      rest_of (Ok l) fit = here (Rest (Ok l)) (verb_of l) fit.1 fit.2 (refl, fit.3)
      rest_of (Err e) (inl wrong) = clean_never e clean (inl wrong)
      rest_of (Err e) (inr (inl long)) = clean_never e clean (inr long)
      rest_of (Err e) (inr (inr (inl fit))) = absurd (fit.1 v ts begins)
      rest_of (Err e) (inr (inr (inr (inl fit)))) = here (Rest (Err e)) fit.1 fit.2 fit.3 (inl (fit.4, fit.5))
      rest_of (Err e) (inr (inr (inr (inr fit)))) = here (Rest (Err e)) fit.1 fit.2 fit.3 (inr (fit.4, fit.5))

      pub only_uncounted : (length ts ≡ length (forms v) → ⊥) → Only (ReadsLine text) (Err Uncounted)
      only_uncounted wrong = (inr (inr (inr (inl (clean, v, ts, begins, wrong, refl)))), λ q fit. once q (rest_of q fit)) where
        once : (q : Result Line LineFault) → Rest q v ts → q ≡ Err Uncounted
        once (Ok l) rest = absurd (wrong (all_count (forms v) ts (values_of l) rest.1))
        once (Err e) (inl rest) = ap Err rest.1
        once (Err e) (inr rest) = absurd (wrong rest.0)

      module _ (right : length ts ≡ length (forms v)) where
        pub only_unread : (e : LineFault) → Only (ReadsFields (forms v) ts 2 2) (Err e) → Only (ReadsLine text) (Err e)
        only_unread e only = (inr (inr (inr (inr (clean, v, ts, begins, right, only.0)))), λ q fit. once q (rest_of q fit)) where
          once : (q : Result Line LineFault) → Rest q v ts → q ≡ Err e
          once (Ok l) rest = let same = only.1 (Ok (values_of l)) rest.1 in cc
          once (Err d) (inl rest) = absurd (rest.0 right)
          once (Err d) (inr rest) = let same = only.1 (Err d) rest.1 in let is : d ≡ e = cc in ap Err is

        pub only_said : (l : Line) (vs : List Value) → verb_of l ≡ v → values_of l ≡ vs → Only (ReadsFields (forms v) ts 2 2) (Ok vs) → Only (ReadsLine text) (Ok l)
        only_said l vs verb values only = (fits, λ q fit. once q (rest_of q fit)) where
          fits : ReadsLine text (Ok l)
          fits = (clean, ts, subst (λ w. Begins text w ts) (sym verb) begins, subst (λ w. AllRead (forms w) ts (values_of l)) (sym verb) (subst (AllRead (forms v) ts) (sym values) only.0))

          once : (q : Result Line LineFault) → Rest q v ts → q ≡ Ok l
          once (Ok m) rest = let same = only.1 (Ok (values_of m)) rest.1 in let is : values_of m ≡ values_of l = cc in ap Ok (same_line m l (rest.0 ∙ sym verb) is)
          once (Err d) (inl rest) = absurd (rest.0 right)
          once (Err d) (inr rest) = let same = only.1 (Err d) rest.1 in cc
