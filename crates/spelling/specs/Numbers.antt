-- Decimal numbers, and the number that a text begins with.
use Rattle.std.specs.Prelude.{◌≡◌, ℕ, ◌<◌, ◌≤◌, List, [], ◌∷◌, length, take, drop, Ok, Err, Result}
use Rattle.std.specs.Char.{digit_value}
use Rattle.std.specs.Str.Parse.{AllDigits, digits_value}
use Rattle.spelling.specs.declared.fault.NumberFault.{NumberFault}
use Rattle.spelling.specs.declared.fault.NumberFault.TheVariants.{NoDigit, TooManyDigits, TooLarge}
use Rattle.spelling.specs.declared.number.Leading.{Leading}
use Rattle.spelling.specs.declared.fault.Fault.{Fault}
use Rattle.spelling.specs.Faults.{number_fault}

-- 1 to 10 decimal digits
abbrev pub IsNumber : List ℕ → Type 0
IsNumber text = (0 < length text) × (length text ≤ 10) × AllDigits 10 text

-- the text begins with a decimal digit
abbrev pub DigitFirst : List ℕ → Type 0
DigitFirst [] = ⊥
DigitFirst (b ∷ text) = digit_value b < 10

-- the number that a text begins with, up to the first byte that is no digit; or why there is none
abbrev pub Leads : List ℕ → Result Leading NumberFault → Type 0
Leads text (Ok n) = (n.length ≤ length text) × IsNumber (take n.length text) × (n.value ≡ digits_value 10 (take n.length text)) × (DigitFirst (drop n.length text) → ⊥)
Leads text (Err NoDigit) = DigitFirst text → ⊥
Leads text (Err TooManyDigits) = (11 ≤ length text) × AllDigits 10 (take 11 text)
Leads text (Err TooLarge) = ⊥

-- the same of the text from a byte on, with the fault at its place
abbrev pub LeadsAt : List ℕ → ℕ → Result Leading Fault → Type 0
LeadsAt text at (Ok n) = Leads (drop at text) (Ok n)
LeadsAt text at (Err f) = (e : NumberFault) × (f ≡ number_fault e at) × Leads (drop at text) (Err e)
