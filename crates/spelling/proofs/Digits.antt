-- Runs of digits at the head of a text.
use Rattle.std.proofs.Common.{◌≡◌, ℕ, zero, suc, ◌+◌, ◌<◌, ◌≤◌, List, [], ◌∷◌, ◌++◌, length, take, drop, sym, refl, subst, arith}
use Rattle.std.proofs.lemmas.List.{length-drop, length-take-le, take-append-drop}
use Rattle.std.specs.Str.Parse.{AllDigits}
use Rattle.spelling.specs.Numbers.{IsNumber, DigitFirst}
use Rattle.spelling.proofs.Parts.{SameFirst, take_sum}

-- the run of digits at the head of a text, and what is behind it
pub peel : (ds es x y : List ℕ) → AllDigits 10 ds → AllDigits 10 es → (DigitFirst x → ⊥) → (DigitFirst y → ⊥) → ds ++ x ≡ es ++ y → (ds ≡ es) × (x ≡ y)
peel [] [] x y a b nx ny e = (refl, e)
peel [] (c ∷ es) x y a b nx ny e = absurd (nx (subst DigitFirst (sym e) b.0))
peel (c ∷ ds) [] x y a b nx ny e = absurd (ny (subst DigitFirst e a.0))
peel (c ∷ ds) (d ∷ es) x y a b nx ny e =
    let first : c ≡ d = cc in
    let rest : ds ++ x ≡ es ++ y = cc in
    let more = peel ds es x y a.1 b.1 nx ny rest in
    (cc (first, more.0), more.1)

-- a run that is cut short is shorter
pub longer : (ds es x y : List ℕ) → AllDigits 10 ds → AllDigits 10 es → DigitFirst x → (DigitFirst y → ⊥) → ds ++ x ≡ es ++ y → length ds < length es
longer [] [] x y a b dx ny e = absurd (ny (subst DigitFirst e dx))
longer [] (c ∷ es) x y a b dx ny e = omega arith
longer (c ∷ ds) [] x y a b dx ny e = absurd (ny (subst DigitFirst e a.0))
longer (c ∷ ds) (d ∷ es) x y a b dx ny e =
    let rest : ds ++ x ≡ es ++ y = cc in
    let less = longer ds es x y a.1 b.1 dx ny rest in
    omega arith

pub all_right : (xs ys : List ℕ) → AllDigits 10 (xs ++ ys) → AllDigits 10 ys
all_right [] ys a = a
all_right (x ∷ xs) ys a = all_right xs ys a.1

all_left : (xs ys : List ℕ) → AllDigits 10 (xs ++ ys) → AllDigits 10 xs
all_left [] ys a = tt
all_left (x ∷ xs) ys a = (a.0, all_left xs ys a.1)

pub digit_first : (ds : List ℕ) → AllDigits 10 ds → 0 < length ds → DigitFirst ds
digit_first [] a some = absurd (omega arith)
digit_first (d ∷ ds) a some = a.0

pub digit_first_on : (ds x : List ℕ) → DigitFirst ds → DigitFirst (ds ++ x)
digit_first_on [] x d = absurd d
digit_first_on (c ∷ ds) x d = d

pub same_digit : (x y : List ℕ) → SameFirst x y → DigitFirst y → DigitFirst x
same_digit [] y s d = subst DigitFirst s d
same_digit (b ∷ x) y s d = subst DigitFirst s.1 d

pub digit_same : (x y : List ℕ) → SameFirst x y → DigitFirst x → DigitFirst y
digit_same [] y s d = absurd d
digit_same (b ∷ x) y s d = subst DigitFirst (sym s.1) d

-- the last byte of a run of digits
last_of : (d : ℕ) (ds x : List ℕ) → AllDigits 10 (d ∷ ds) → DigitFirst (drop (length ds) ((d ∷ ds) ++ x))
last_of d [] x a = a.0
last_of d (e ∷ ds) x a = last_of e ds x a.1

pub last_digit : (xs ds x : List ℕ) (i : ℕ) → AllDigits 10 ds → 0 < length ds → i + 1 ≡ length xs + length ds → DigitFirst (drop i (xs ++ (ds ++ x)))
last_digit [] [] x i a some e = absurd (omega arith)
last_digit [] (d ∷ ds) x i a some e = let k : length ds ≡ i = omega arith in subst (λ n. DigitFirst (drop n ((d ∷ ds) ++ x))) k (last_of d ds x a)
last_digit (y ∷ xs) ds x zero a some e = absurd (omega arith)
last_digit (y ∷ xs) ds x (suc i) a some e = last_digit xs ds x i a some (omega arith)

-- eleven digits are ten and one more
pub eleventh : (text : List ℕ) → 11 ≤ length text → AllDigits 10 (take 11 text) → IsNumber (take 10 text) × DigitFirst (drop 10 text)
eleventh text many all =
    let parts = subst (AllDigits 10) (take_sum 10 1 text) all in
    let size = length-take-le 10 text (omega arith) in
    let rest = length-drop 10 text in
    let one = length-take-le 1 (drop 10 text) (omega arith) in (
      (omega arith, omega arith, all_left (take 10 text) (take 1 (drop 10 text)) parts),
      subst DigitFirst (take-append-drop 1 (drop 10 text)) (digit_first_on (take 1 (drop 10 text)) (drop 1 (drop 10 text)) (digit_first (take 1 (drop 10 text)) (all_right (take 10 text) (take 1 (drop 10 text)) parts) (omega arith))),
    )
