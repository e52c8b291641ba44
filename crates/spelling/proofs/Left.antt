-- What is left to read of a text, behind the part that was read.
use Rattle.std.proofs.Common.{◌≡◌, ℕ, ◌+◌, ◌-◌, ◌<◌, ◌≤◌, List, [], ◌∷◌, ◌++◌, length, take, drop, get_or, set, Some, Ok, Err, sym, refl, ap, ap₂, ◌∙◌, subst, subst₂, append_assoc, arith}
use Rattle.std.specs.Char.{digit_value}
use Rattle.std.specs.List.{slice_get}
use Rattle.std.specs.Str.Parse.{AllDigits, digits_value}
use Rattle.std.proofs.lemmas.List.{append-nil, length-append, length-drop, length-take-le, take-append-drop, drop-drop, drop_all, drop_more, take_all, take_more_set}
use Rattle.std.proofs.lemmas.Option.{slice_get_within}
use Rattle.spelling.specs.Faults.{digits_before}
use Rattle.spelling.specs.Misfit.{CanGoOn, Misfit}
use Rattle.spelling.specs.Numbers.{IsNumber, DigitFirst, Leads, LeadsAt}
use Rattle.spelling.specs.declared.fault.Fault.{Fault}
use Rattle.spelling.specs.Forms.{mark_byte, Spells, Spelled, DigitBefore, Explains}
use Rattle.spelling.specs.declared.fault.NumberFault.{NumberFault}
use Rattle.spelling.specs.declared.fault.NumberFault.TheVariants.{NoDigit, TooManyDigits, TooLarge}
use Rattle.spelling.specs.declared.fault.Problem.TheVariants.{Number, Region}
use Rattle.spelling.specs.declared.fault.RegionFault.TheVariants.{Unfit}
use Rattle.spelling.specs.declared.form.Mark.{Mark}
use Rattle.spelling.specs.declared.form.Mark.TheVariants.{Dot, Slash, Dash}
use Rattle.spelling.specs.declared.number.Leading.{Leading}
use Rattle.spelling.proofs.Parts.{SameFirst, take_sum, same_head, same_some, first_of, first_is}
use Rattle.spelling.proofs.Digits.{peel, longer, all_right, digit_first, digit_first_on, same_digit, digit_same, last_digit, eleventh}
use Rattle.spelling.proofs.Misfits.{misfit_at}

pub mark_no_digit : (m : Mark) → digit_value (mark_byte m) < 10 → ⊥
mark_no_digit Dot d = omega arith
mark_no_digit Slash d = omega arith
mark_no_digit Dash d = omega arith

zero_number : IsNumber (48 ∷ [])
zero_number = (omega arith, omega arith, (omega arith, tt))

-- every form spells some text
some_text : (marks : List Mark) → (text : List ℕ) × Spelled marks text
some_text [] = (48 ∷ [], (0 ∷ [], (zero_number, refl)))
some_text (m ∷ marks) =
    let (text, (ns, spells)) = some_text marks in
    (48 ∷ mark_byte m ∷ text, (0 ∷ ns, (48 ∷ [], text, ns, refl, zero_number, refl, spells)))

-- and some text that begins with these digits
some_text_on : (marks : List Mark) (digits : List ℕ) → IsNumber digits → CanGoOn (Spelled marks) digits
some_text_on [] digits n = ([], (digits_value 10 (digits ++ []) ∷ [], (subst IsNumber (sym (append-nil digits)) n, refl)))
some_text_on (m ∷ marks) digits n =
    let (text, (ns, spells)) = some_text marks in
    (mark_byte m ∷ text, (digits_value 10 digits ∷ ns, (digits, text, ns, refl, n, refl, spells)))

-- a text of a form begins with a number, up to the first byte that is no digit
record FirstNumber (text : List ℕ) : Type 0 where
  digits : List ℕ
  rest : List ℕ
  is : text ≡ digits ++ rest
  number : IsNumber digits
  closed : DigitFirst rest → ⊥

first_number : (marks : List Mark) (ns text : List ℕ) → Spells marks ns text → FirstNumber text
first_number [] ns text s = record { digits = text; rest = []; is = sym (append-nil text); number = s.0; closed = λ d. d }
first_number (m ∷ marks) ns text (digits, rest, later, is, number, _, _) = record { digits = digits; rest = mark_byte m ∷ rest; is = is; number = number; closed = mark_no_digit m }

begins : (marks : List Mark) (text : List ℕ) → Spelled marks text → DigitFirst text
begins marks text (ns, s) =
    let f = first_number marks ns text s in
    subst DigitFirst (sym f.is) (digit_first_on f.digits f.rest (digit_first f.digits f.number.2 f.number.0))

not_eleven : (marks : List Mark) (ds x : List ℕ) → AllDigits 10 ds → 10 ≤ length ds → DigitFirst x → Spelled marks (ds ++ x) → ⊥
not_eleven marks ds x a ten d (ns, s) =
    let f = first_number marks ns (ds ++ x) s in
    let less = longer ds f.digits x f.rest a f.number.2 d f.closed f.is in
    let few = f.number.1 in
    omega arith

-- behind `lead`, which spells the numbers ns, the rest of a text of the form `marks` is a text of the form `rest`
pub record Expects (marks rest : List Mark) (ns lead : List ℕ) : Type 0 where
  pub on : (ms x : List ℕ) → Spells rest ms x → Spells marks (ns ++ ms) (lead ++ x)
  pub back : (ms x : List ℕ) → Spells marks ms (lead ++ x) → Spelled rest x

expects_all : (marks : List Mark) → Expects marks marks [] []
expects_all marks = record { on = λ ms x s. s; back = λ ms x s. (ms, s) }

-- a number and its mark further
expects_next : (marks rest : List Mark) (m : Mark) (ns lead digits : List ℕ) → IsNumber digits → Expects marks (m ∷ rest) ns lead
    → Expects marks rest (ns ++ digits_value 10 digits ∷ []) (lead ++ (digits ++ mark_byte m ∷ []))
expects_next marks rest m ns lead digits number e =
    let whole : (x : List ℕ) → lead ++ (digits ++ mark_byte m ∷ []) ++ x ≡ lead ++ (digits ++ mark_byte m ∷ x) =
    λ x. append_assoc lead (digits ++ mark_byte m ∷ []) x ∙ ap (λ t. lead ++ t) (append_assoc digits (mark_byte m ∷ []) x) in
    record {
      on = λ ms x s. subst (λ t. Spells marks (ns ++ digits_value 10 digits ∷ [] ++ ms) t) (sym (whole x))
          (subst (λ l. Spells marks l (lead ++ (digits ++ mark_byte m ∷ x))) (sym (append_assoc ns (digits_value 10 digits ∷ []) ms))
          (e.on (digits_value 10 digits ∷ ms) (digits ++ mark_byte m ∷ x) (digits, x, ms, refl, number, refl, s)));
      back = λ ms x s.
          let (_, (ds, y, later, is, n, _, spells)) = e.back ms (digits ++ mark_byte m ∷ x) (subst (Spells marks ms) (whole x) s) in
          let same = peel digits ds (mark_byte m ∷ x) (mark_byte m ∷ y) number.2 n.2 (mark_no_digit m) (mark_no_digit m) is in
          let tail : y ≡ x = let t = same.1 in cc in
          (later, subst (Spells rest later) tail spells);
    }

goes_on : (marks rest : List Mark) (ns lead digits : List ℕ) → IsNumber digits → Expects marks rest ns lead → CanGoOn (Spelled marks) (lead ++ digits)
goes_on marks rest ns lead digits number e =
    let (x, (ms, s)) = some_text_on rest digits number in
    (x, (ns ++ ms, subst (Spells marks (ns ++ ms)) (sym (append_assoc lead digits x)) (e.on ms (digits ++ x) s)))

back_on : (marks rest : List Mark) (ns lead digits x : List ℕ) → Expects marks rest ns lead → Spelled marks (lead ++ digits ++ x) → Spelled rest (digits ++ x)
back_on marks rest ns lead digits x e (ms, s) = e.back ms (digits ++ x) (subst (Spells marks ms) (append_assoc lead digits x) s)

-- a number has to begin here
pub record AtNumber (marks rest : List Mark) (ns text : List ℕ) (at : ℕ) : Type 0 where
  pub low : at ≤ length text
  pub fresh : DigitBefore text at → ⊥
  pub expects : Expects marks rest ns (take at text)

-- a number has just been read
pub record AfterNumber (marks rest : List Mark) (ns text : List ℕ) (at : ℕ) : Type 0 where
  pub low : at ≤ length text
  pub lead : List ℕ
  pub digits : List ℕ
  pub before : List ℕ
  pub here : take at text ≡ lead ++ digits
  pub number : IsNumber digits
  pub is : ns ≡ before ++ digits_value 10 digits ∷ []
  pub expects : Expects marks rest before lead
  pub closed : DigitFirst (drop at text) → ⊥

pub at_start : (marks : List Mark) (text : List ℕ) → AtNumber marks marks [] text 0
at_start marks text = record { low = omega arith; fresh = λ d. let less = d.0 in omega arith; expects = expects_all marks }

pub number_read : (marks rest : List Mark) (ns text : List ℕ) (at : ℕ) (n : Leading) → AtNumber marks rest ns text at → Leads (drop at text) (Ok n)
    → AfterNumber marks rest (ns ++ n.value ∷ []) text (at + n.length)
number_read marks rest ns text at n a (fits, number, value, closed) =
    let size = length-drop at text in
    let low = a.low in
    record {
      low = omega arith;
      lead = take at text;
      digits = take n.length (drop at text);
      before = ns;
      here = take_sum at n.length text;
      number = number;
      is = ap (λ v. ns ++ v ∷ []) value;
      expects = a.expects;
      closed = subst (λ t. DigitFirst t → ⊥) (drop-drop n.length at text) closed;
    }

pub number_missing : (marks rest : List Mark) (ns text : List ℕ) (at : ℕ) (e : NumberFault) → AtNumber marks rest ns text at → Leads (drop at text) (Err e)
    → Misfit (Spelled marks) text (at + digits_before e) × Explains text (at + digits_before e) (Number e)
number_missing marks rest ns text at NoDigit a none =
    let (x, (ms, s)) = some_text rest in
    let same : at ≡ at + 0 = omega arith in
    subst (λ i. Misfit (Spelled marks) text i × Explains text i (Number NoDigit)) same (
      misfit_at (Spelled marks) text at a.low (x, (ns ++ ms, a.expects.on ms x s)) (λ y first (ms, s). none (same_digit (drop at text) y first (begins rest y (a.expects.back ms y s)))),
      (a.fresh, none),
    )
number_missing marks rest ns text at TooManyDigits a (many, all) =
    let ten = take 10 (drop at text) in
    let (number, more) = eleventh (drop at text) many all in
    let cut = take_sum at 10 text in
    let here = drop-drop 10 at text in
    let size = length-drop at text in (
      misfit_at (Spelled marks) text (at + 10) (omega arith) (subst (CanGoOn (Spelled marks)) (sym cut) (goes_on marks rest ns (take at text) ten number a.expects))
          (λ y first s. not_eleven rest ten y number.2 (let n = length-take-le 10 (drop at text) (omega arith) in omega arith) (digit_same (drop (at + 10) text) y first (subst DigitFirst here more))
          (back_on marks rest ns (take at text) ten y a.expects (subst (λ t. Spelled marks (t ++ y)) cut s))),
      subst DigitFirst here more,
    )
number_missing marks rest ns text at TooLarge a never = absurd never

-- the fault that is answered then
pub number_fails : (marks rest : List Mark) (ns text : List ℕ) (at : ℕ) (f : Fault) → AtNumber marks rest ns text at → LeadsAt text at (Err f)
    → Misfit (Spelled marks) text f.byte × Explains text f.byte f.problem
number_fails marks rest ns text at f a (e, is, leads) =
    subst (λ (g : Fault). Misfit (Spelled marks) text g.byte × Explains text g.byte g.problem) (sym is) (number_missing marks rest ns text at e a leads)

pub mark_read : (marks rest : List Mark) (m : Mark) (ns text : List ℕ) (at : ℕ) → AfterNumber marks (m ∷ rest) ns text at → slice_get text at ≡ Some (mark_byte m)
    → AtNumber marks rest ns text (at + 1)
mark_read marks rest m ns text at a is =
    let here = first_of text at (mark_byte m) is in
    let within = slice_get_within text at (mark_byte m) is in
    let same : at + 1 - 1 ≡ at = omega arith in
    let cut : a.lead ++ (a.digits ++ mark_byte m ∷ []) ≡ take (at + 1) text =
    sym (append_assoc a.lead a.digits (mark_byte m ∷ [])) ∙ ap₂ (λ l d. l ++ take 1 d) (sym a.here) (sym here) ∙ sym (take_sum at 1 text) in
    record {
      low = omega arith;
      fresh = λ d. mark_no_digit m (subst DigitFirst (ap (λ i. drop i text) same ∙ here) d.1);
      expects = subst₂ (Expects marks rest) (sym a.is) cut (expects_next marks rest m a.before a.lead a.digits a.number a.expects);
    }

-- no text goes on so, where a number has just been read
unfit : (marks rest : List Mark) (ns text : List ℕ) (at : ℕ) (a : AfterNumber marks rest ns text at)
    → ((y : List ℕ) → SameFirst (drop at text) y → (DigitFirst y → ⊥) → Spelled rest (a.digits ++ y) → ⊥) → Misfit (Spelled marks) text at × Explains text at (Region Unfit)
unfit marks rest ns text at a never =
    let size = length-take-le at text a.low in
    let parts = length-append a.lead a.digits in
    let long = ap length a.here in
    let some = a.number.0 in
    let whole : text ≡ a.lead ++ (a.digits ++ drop at text) =
    sym (take-append-drop at text) ∙ ap (λ t. t ++ drop at text) a.here ∙ append_assoc a.lead a.digits (drop at text) in (
      misfit_at (Spelled marks) text at a.low (subst (CanGoOn (Spelled marks)) (sym a.here) (goes_on marks rest a.before a.lead a.digits a.number a.expects))
          (λ y first s. never y first (λ d. a.closed (same_digit (drop at text) y first d)) (back_on marks rest a.before a.lead a.digits y a.expects (subst (λ t. Spelled marks (t ++ y)) a.here s))),
      ((omega arith, subst (λ t. DigitFirst (drop (at - 1) t)) (sym whole) (last_digit a.lead a.digits (drop at text) (at - 1) a.number.2 a.number.0 (omega arith))), a.closed),
    )

pub mark_missing : (marks rest : List Mark) (m : Mark) (ns text : List ℕ) (at : ℕ) → AfterNumber marks (m ∷ rest) ns text at → (slice_get text at ≡ Some (mark_byte m) → ⊥)
    → Misfit (Spelled marks) text at × Explains text at (Region Unfit)
mark_missing marks rest m ns text at a not =
    unfit marks (m ∷ rest) ns text at a (λ y first shut (ms, (ds, z, later, is, n, _, _)).
    let here = peel a.digits ds y (mark_byte m ∷ z) a.number.2 n.2 shut (mark_no_digit m) is in
    let (x, e) = same_head (drop at text) y z (mark_byte m) first here.1 in
    not (first_is text at (mark_byte m) x e))

pub all_read : (marks : List Mark) (ns text : List ℕ) (at : ℕ) → AfterNumber marks [] ns text at → length text ≤ at → Spells marks ns text
all_read marks ns text at a end =
    subst₂ (Spells marks) (sym a.is) (sym a.here ∙ take_all at text end) (a.expects.on (digits_value 10 a.digits ∷ []) a.digits (a.number, refl))

pub more_than_all : (marks : List Mark) (ns text : List ℕ) (at : ℕ) → AfterNumber marks [] ns text at → at < length text
    → Misfit (Spelled marks) text at × Explains text at (Region Unfit)
more_than_all marks ns text at a more =
    let size = length-drop at text in
    unfit marks [] ns text at a (λ y first shut (ms, (n, _)). shut (digit_first y (all_right a.digits y n.2) (same_some (drop at text) y first (omega arith))))

-- the mark that is next
pub next_mark : (marks : List Mark) (i : ℕ) (ns text : List ℕ) (at : ℕ) → i < length marks → AfterNumber marks (drop i marks) ns text at → AfterNumber marks (get_or marks i Dot ∷ drop (i + 1) marks) ns text at
next_mark marks i ns text at here a = subst (λ rest. AfterNumber marks rest ns text at) (drop_more marks i Dot here) a

-- no mark is left
pub no_mark : (marks : List Mark) (i : ℕ) (ns text : List ℕ) (at : ℕ) → length marks ≤ i → AfterNumber marks (drop i marks) ns text at → AfterNumber marks [] ns text at
no_mark marks i ns text at past a = subst (λ rest. AfterNumber marks rest ns text at) (drop_all i marks past) a

-- the numbers so far, as they lie in the array
pub stored : (marks rest : List Mark) (first value : ℕ) (later text : List ℕ) (i at n : ℕ) → i < length later → AfterNumber marks rest (first ∷ take i later ++ value ∷ []) text (at + 1 + n)
    → AfterNumber marks rest (first ∷ take (i + 1) (set later i value)) text (at + (1 + n))
stored marks rest first value later text i at n room a =
    let same : at + 1 + n ≡ at + (1 + n) = omega arith in
    subst₂ (λ ns k. AfterNumber marks rest (first ∷ ns) text k) (sym (take_more_set later i value room)) same a
