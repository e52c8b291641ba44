-- Sets and decisions as texts.
use Rattle.std.specs.Prelude.{◌≡◌, ℕ, zero, suc, ◌/◌, ◌%◌, ◌^◌, ◌≤◌, ◌⊎◌, List, [], ◌∷◌, length, Ok, Err, Result}
use Rattle.std.specs.Char.{digit_char}
use Rattle.std.specs.List.{AllByRecursion}
use Rattle.std.specs.Str.Parse.{digits_value}
use Rattle.kinds.specs.declared.set.Set.{Set}
use Rattle.model.specs.declared.rules.Decision.{Decision}
use Rattle.model.specs.declared.rules.Decision.TheVariants.{Accept, Discard}
use Rattle.spelling.specs.Misfit.{Misfit}
use Rattle.spelling.specs.Reads.{Reads}
use Rattle.spelling.specs.declared.fault.Fault.{Fault}
use Rattle.spelling.specs.declared.fault.Problem.{Problem}
use Rattle.spelling.specs.declared.fault.Problem.TheVariants.{Region}
use Rattle.spelling.specs.declared.fault.RegionFault.TheVariants.{Unfit, Empty}
use Rattle.spelling.specs.declared.decision.NoDecision.{NoDecision}

-- 0 to 9 or a to f
abbrev pub IsHexDigit : ℕ → Type 0
IsHexDigit b = ((48 ≤ b) × (b ≤ 57)) ⊎ ((97 ≤ b) × (b ≤ 102))

-- exactly eight of them
abbrev pub IsMaskText : List ℕ → Type 0
IsMaskText text = (length text ≡ 8) × AllByRecursion IsHexDigit text

-- the set with this mask; mask 0 is none
abbrev pub SetOf : List ℕ → Result Set Problem → Type 0
SetOf text (Ok x) = IsMaskText text × (x.mask ≡ digits_value 16 text)
SetOf text (Err p) = IsMaskText text × (digits_value 16 text ≡ 0) × (p ≡ Region Empty)

abbrev pub ReadsSet : List ℕ → Result Set Fault → Type 0
ReadsSet text r = Reads IsMaskText (λ t i p. p ≡ Region Unfit) SetOf text r

-- the letter of a decision: `a` and `d`
abbrev pub letter : Decision → ℕ
letter Accept = 97
letter Discard = 100

abbrev pub IsDecisionText : List ℕ → Type 0
IsDecisionText text = (d : Decision) × (text ≡ letter d ∷ [])

abbrev pub ReadsDecision : List ℕ → Result Decision NoDecision → Type 0
ReadsDecision text (Ok d) = text ≡ letter d ∷ []
ReadsDecision text (Err e) = Misfit IsDecisionText text e.byte

-- the lowest k hexadecimal digits of m, the highest of them first
abbrev pub hex_digits : ℕ → ℕ → List ℕ
hex_digits zero m = []
hex_digits (suc k) m = digit_char (m / 16 ^ k % 16) ∷ hex_digits k m

abbrev pub set_text : Set → List ℕ
set_text x = hex_digits 8 x.mask

abbrev pub decision_text : Decision → List ℕ
decision_text d = letter d ∷ []
