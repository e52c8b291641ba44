-- Forms: numbers with a mark between each two.
use Rattle.std.specs.Prelude.{◌≡◌, ℕ, ◌-◌, ◌<◌, List, [], ◌∷◌, ◌++◌, drop, Ok, Err, Result}
use Rattle.std.specs.Str.Parse.{digits_value}
use Rattle.spelling.specs.Misfit.{Misfit}
use Rattle.spelling.specs.Numbers.{IsNumber, DigitFirst}
use Rattle.spelling.specs.declared.form.Mark.{Mark}
use Rattle.spelling.specs.declared.form.Mark.TheVariants.{Dot, Slash, Dash}
use Rattle.spelling.specs.declared.form.Numbers.{Numbers}
use Rattle.spelling.specs.declared.fault.Fault.{Fault}
use Rattle.spelling.specs.declared.fault.Problem.{Problem}
use Rattle.spelling.specs.declared.fault.Problem.TheVariants.{Number, Region}
use Rattle.spelling.specs.declared.fault.NumberFault.TheVariants.{NoDigit, TooManyDigits, TooLarge}
use Rattle.spelling.specs.declared.fault.RegionFault.TheVariants.{Unfit, HostBits, LoAboveHi, Empty}

-- the byte of a mark: `.`, `/` and `-`
abbrev pub mark_byte : Mark → ℕ
mark_byte Dot = 46
mark_byte Slash = 47
mark_byte Dash = 45

-- the text spells these numbers, with these marks between them
abbrev pub Spells : List Mark → List ℕ → List ℕ → Type 0
Spells [] ns text = IsNumber text × (ns ≡ digits_value 10 text ∷ [])
Spells (m ∷ marks) ns text =
    (digits : List ℕ) × (rest : List ℕ) × (later : List ℕ) × (text ≡ digits ++ mark_byte m ∷ rest) × IsNumber digits × (ns ≡ digits_value 10 digits ∷ later) × Spells marks later rest

-- the text spells some numbers so
abbrev pub Spelled : List Mark → List ℕ → Type 0
Spelled marks text = (ns : List ℕ) × Spells marks ns text

-- the byte before this one is a digit
abbrev pub DigitBefore : List ℕ → ℕ → Type 0
DigitBefore text i = (0 < i) × DigitFirst (drop (i - 1) text)

-- what is wrong at a byte that cannot stand there: a digit is one too many; where no digit is before, a number had to begin
abbrev pub Explains : List ℕ → ℕ → Problem → Type 0
Explains text i (Number NoDigit) = (DigitBefore text i → ⊥) × (DigitFirst (drop i text) → ⊥)
Explains text i (Number TooManyDigits) = DigitFirst (drop i text)
Explains text i (Number TooLarge) = ⊥
Explains text i (Region Unfit) = DigitBefore text i × (DigitFirst (drop i text) → ⊥)
Explains text i (Region HostBits) = ⊥
Explains text i (Region LoAboveHi) = ⊥
Explains text i (Region Empty) = ⊥

-- the numbers that the text spells, or its first byte that cannot stand there
abbrev pub Scanned : {N : ℕ} → List Mark → List ℕ → Result (Numbers N) Fault → Type 0
Scanned marks text (Ok n) = Spells marks (n.first ∷ n.later) text
Scanned marks text (Err f) = Misfit (Spelled marks) text f.byte × Explains text f.byte f.problem

-- x fits, and nothing else does
abbrev pub Only : {X : Type 0} → (X → Type 0) → X → Type 0
Only {X} fits x = fits x × ((y : X) → fits y → y ≡ x)
