-- Decimal digits and their value.
use Rattle.std.proofs.Common.{◌≡◌, ℕ, ◌+◌, ◌*◌, ◌^◌, ◌<◌, ◌≤◌, List, length, take, get_or, sym, ap, ◌∙◌, subst, arith}
use Rattle.std.proofs.lemmas.List.{length-take}
use Rattle.std.proofs.lemmas.Int.Digits.{digits_more, digits_value_more}
use Rattle.std.proofs.lemmas.Str.Parse.{IsNumeralModel, numerals_by_value, tells_digits, digits_value_short}
use Rattle.std.specs.Char.{digit_value}
use Rattle.std.specs.Str.Parse.{AllDigits, digits_value}

pub own : IsNumeralModel (AllDigits 10) (digits_value 10)
own = numerals_by_value (AllDigits 10) tells_digits

-- ten digits write a number below 10 ^ 10
pub value_bound : (text : List ℕ) (i n : ℕ) → i ≤ 10 → n ≡ digits_value 10 (take i text) → AllDigits 10 (take i text) → n < 10 ^ 10
value_bound text i n short is all =
    let size = length-take i text in
    let bound = digits_value_short own (take i text) 10 all (omega arith) in
    omega arith

-- one digit more
pub one_more : (radix : ℕ) (text : List ℕ) (i n d c : ℕ) → i < length text → AllDigits radix (take i text) → n ≡ digits_value radix (take i text)
    → c ≡ get_or text i 0 → digit_value c < radix → d ≡ digit_value c → AllDigits radix (take (i + 1) text) × (n * radix + d ≡ digits_value radix (take (i + 1) text))
one_more radix text i n d c here all is at digit value = (
  digits_more radix text i here all (subst (λ b. digit_value b < radix) at digit),
  ap (λ m. m * radix + d) is ∙ ap (λ e. digits_value radix (take i text) * radix + e) (value ∙ ap digit_value at) ∙ sym (digits_value_more radix text i here),
)
