-- Hexadecimal digits, and the masks that they write.
use Rattle.std.proofs.Common.{◌≡◌, ℕ, zero, suc, ◌+◌, ◌-◌, ◌*◌, ◌^◌, ◌<◌, ◌≤◌, List, [], ◌∷◌, ◌++◌, length, take, drop, get_or, replicate, sym, ap, ap₂, ◌∙◌, subst, inl, inr, arith}
use Rattle.std.proofs.Math.Nat.{pow-le-pow_right}
use Rattle.std.proofs.lemmas.Bool.Decides.{nat_tests}
use Rattle.std.proofs.lemmas.Str.{digit_value_digit}
use Rattle.std.specs.Char.{digit_value}
use Rattle.std.specs.List.{AllByRecursion}
use Rattle.std.specs.Str.Parse.{AllDigits, digits_value}
use Rattle.std.proofs.lemmas.Int.Digits.{digits_value-lt}
use Rattle.std.proofs.lemmas.List.{append-nil, length-append, length-replicate, length-take, length-take-le, take_all, drop_all, drop_more, take_more}
use Rattle.spelling.specs.Misfit.{CanGoOn, Misfit}
use Rattle.spelling.specs.Letters.{IsHexDigit, IsMaskText}
use Rattle.spelling.proofs.Decimal.{one_more}
use Rattle.spelling.proofs.Misfits.{misfit_at}
use Rattle.spelling.proofs.Parts.{SameFirst}

digit_low : (b : ℕ) → 48 ≤ b → b ≤ 57 → digit_value b < 16
digit_low b low high = let value = digit_value_digit b (low, high) in omega arith

letter_low : (b : ℕ) → 97 ≤ b → b ≤ 102 → digit_value b < 16
letter_low b low high = grind (arith, nat_tests)

pub hex_digit : (b : ℕ) → IsHexDigit b → digit_value b < 16
hex_digit b (inl h) = digit_low b h.0 h.1
hex_digit b (inr h) = letter_low b h.0 h.1

abbrev pub AllHex : List ℕ → Type 0
AllHex text = AllByRecursion IsHexDigit text

pub all_digits : (text : List ℕ) → AllHex text → AllDigits 16 text
all_digits [] all = tt
all_digits (b ∷ text) all = (hex_digit b all.0, all_digits text all.1)

pub all_both : (xs ys : List ℕ) → AllHex xs → AllHex ys → AllHex (xs ++ ys)
all_both [] ys a b = b
all_both (x ∷ xs) ys a b = (a.0, all_both xs ys a.1 b)

pub all_behind : (xs ys : List ℕ) → AllHex (xs ++ ys) → AllHex ys
all_behind [] ys a = a
all_behind (x ∷ xs) ys a = all_behind xs ys a.1

zeros : (n : ℕ) → AllHex (replicate n 48)
zeros zero = tt
zeros (suc n) = (inl (omega arith, omega arith), zeros n)

-- seven digits write a number below 16 ^ 7
pub mask_bound : (text : List ℕ) (i n : ℕ) → i ≤ 7 → n ≡ digits_value 16 (take i text) → AllHex (take i text) → n < 16 ^ 7
mask_bound text i n short is all =
    let size = length-take i text in
    let bound = digits_value-lt 16 (take i text) (all_digits (take i text) all) in
    let some : 0 < 16 = omega arith in
    let few : length (take i text) ≤ 7 = omega arith in
    let most = pow-le-pow_right {n = 16} some few in
    omega arith

-- up to eight digits can go on
fills_up : (text : List ℕ) → length text ≤ 8 → AllHex text → CanGoOn IsMaskText text
fills_up text short all =
    let rest = replicate (8 - length text) 48 in
    let size = length-append text rest in
    let zs : length rest ≡ 8 - length text = length-replicate (8 - length text) 48 in
    (rest, (omega arith, all_both text rest all (zeros (8 - length text))))

first_hex : {b : ℕ} {rest : List ℕ} (x y : List ℕ) → x ≡ b ∷ rest → SameFirst x y → AllHex y → IsHexDigit b
first_hex {b} {rest} x y is first all =
    let (more, e) = subst (λ d. SameFirst d y) is first in
    (subst AllHex e all).0

-- a byte that is no digit
pub no_digit : (text : List ℕ) (i : ℕ) → i ≤ 8 → i < length text → AllHex (take i text) → (IsHexDigit (get_or text i 0) → ⊥) → Misfit IsMaskText text i
no_digit text i short within all not =
    let size = length-take-le i text (omega arith) in
    misfit_at IsMaskText text i (omega arith) (fills_up (take i text) (omega arith) all) (λ y first right. not (first_hex (drop i text) y (drop_more text i 0 within) first (all_behind (take i text) y right.1)))

-- too few digits
pub too_few : (text : List ℕ) → length text < 8 → AllHex text → Misfit IsMaskText text (length text)
too_few text few all =
    let whole = take_all (length text) text (omega arith) in
    let none = drop_all (length text) text (omega arith) in
    misfit_at IsMaskText text (length text) (omega arith) (subst (CanGoOn IsMaskText) (sym whole) (fills_up text (omega arith) all))
    (λ y first right. let gone : y ≡ [] = subst (λ d. SameFirst d y) none first in let size = ap length (ap₂ (λ a b. a ++ b) whole gone ∙ append-nil text) in let eight = right.0 in omega arith)

-- one digit more
pub one_hex_more : (text : List ℕ) (i n d b : ℕ) → i < length text → AllHex (take i text) → n ≡ digits_value 16 (take i text) → b ≡ get_or text i 0 → IsHexDigit b → d ≡ digit_value b
    → AllHex (take (i + 1) text) × (n * 16 + d ≡ digits_value 16 (take (i + 1) text))
one_hex_more text i n d b here all is at digit value = (
  subst AllHex (sym (take_more text i 0 here)) (all_both (take i text) (get_or text i 0 ∷ []) all (subst IsHexDigit at digit, tt)),
  (one_more 16 text i n d b here (all_digits (take i text) all) is at (hex_digit b digit) value).1,
)
