-- Sets and decisions that are written are read back.
use Rattle.std.proofs.Common.{◌≡◌, ℕ, zero, suc, ◌+◌, ◌/◌, ◌%◌, ◌^◌, ◌<◌, List, [], ◌∷◌, map, Ok, sym, refl, ap, ap₂, ◌∙◌, inl, inr, arith}
use Rattle.std.specs.Char.{digit_char, digit_value}
use Rattle.std.specs.Int.Digits.{number_from_digits}
use Rattle.std.specs.Str.Parse.{digits_value}
use Rattle.std.proofs.lemmas.Bool.{cases_lt, cond_below, cond_above}
use Rattle.std.proofs.lemmas.Int.Digits.{digits_value_is}
use Rattle.std.proofs.lemmas.Nat.{mod_below}
use Rattle.std.proofs.lemmas.Str.{digit_value-digit_char}
use Rattle.kinds.specs.declared.set.Set.{Set}
use Rattle.spelling.specs.Letters.{IsHexDigit, ReadsSet, hex_digits, set_text}
use Rattle.spelling.proofs.Hex.{AllHex}

hex_char : (d : ℕ) → d < 16 → IsHexDigit (digit_char d)
hex_char d low = elim (cases_lt d 10) [
  | inl less ↦ inl (let is = cond_below d 10 (48 + d) (87 + d) less in (omega arith, omega arith))
  | inr more ↦ inr (let is = cond_above d 10 (48 + d) (87 + d) (87 + d) more refl in (omega arith, omega arith))
]

all_hex : (k m : ℕ) → AllHex (hex_digits k m)
all_hex zero m = tt
all_hex (suc k) m = (hex_char (m / 16 ^ k % 16) (mod_below (m / 16 ^ k) 16 (omega arith)), all_hex k m)

abbrev nibbles : ℕ → ℕ → List ℕ
nibbles zero m = []
nibbles (suc k) m = m / 16 ^ k % 16 ∷ nibbles k m

values : (k m : ℕ) → map digit_value (hex_digits k m) ≡ nibbles k m
values zero m = refl
values (suc k) m = let low = mod_below (m / 16 ^ k) 16 (omega arith) in ap₂ (λ d l. d ∷ l) (digit_value-digit_char (m / 16 ^ k % 16) (omega arith)) (values k m)

nibbles_whole : (m : ℕ) → m < 2 ^ 32 → number_from_digits 16 (nibbles 8 m) ≡ m
nibbles_whole m few = omega arith

mask_back : (m : ℕ) → m < 2 ^ 32 → digits_value 16 (hex_digits 8 m) ≡ m
mask_back m few = digits_value_is 16 (hex_digits 8 m) ∙ ap (number_from_digits 16) (values 8 m) ∙ nibbles_whole m few

pub set_back : (x : Set) → ReadsSet (set_text x) (Ok x)
set_back x = ((refl, all_hex 8 x.mask), sym (mask_back x.mask x.few))
