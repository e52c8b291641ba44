-- One truth value, or both.
use Rattle.std.specs.Prelude.{◌≡◌, ℕ, ◌<◌, ◌≤◌, Bool, true, false, List, [], ◌∷◌, length, Some, None, Ok, Err, Option, Result, ⊤, refl}
use mathlib.Core.List.{Memᴰ}
use Rattle.std.proofs.Math.Bool.{Bool-discrete}
use Rattle.kinds.specs.Words.{Inhabited, Finite, Decided}
use Rattle.search.specs.List.{Says, Meets}
use Rattle.search.specs.declared.answer.TooShort.{TooShort}
use Rattle.search.specs.declared.list.Entry.{Entry}
use Rattle.search.specs.declared.list.Match.{Match}
use Rattle.search.specs.declared.list.Wish.{Wish}
use Rattle.examples.specs.declared.flag.Flag.{Flag}
use Rattle.examples.specs.declared.flag.Flag.TheVariants.{On, Off, Either}

-- On holds true, Off holds false, Either holds both
abbrev pub flag_holds : Flag → Bool → Type 0
flag_holds On v = v ≡ true
flag_holds Off v = v ≡ false
flag_holds Either v = ⊤

pub flag_some : (x : Flag) → Inhabited (flag_holds x)
flag_some On = (true, refl)
flag_some Off = (false, refl)
flag_some Either = (true, tt)

in_both : (v : Bool) → Memᴰ v (true ∷ (false ∷ []))
in_both true = Memᴰ.head refl
in_both false = Memᴰ.tail (Memᴰ.head refl)

pub flag_values : (x : Flag) → Finite (flag_holds x)
flag_values x = (true ∷ (false ∷ []), λ v h. in_both v)

pub flag_decided : (x : Flag) → Decided (flag_holds x)
flag_decided On v = Bool-discrete v true
flag_decided Off v = Bool-discrete v false
flag_decided Either v = yes tt

-- v has an outcome as wished in a list of flags
abbrev pub HasWished : List (Entry Flag) → Wish → Bool → Type 0
HasWished es wish v = (m : Option Match) × Says flag_holds es v m × Meets wish m

-- too short exactly where there are no more frames than entries; else a value with an outcome as wished, or nothing exactly
-- where neither has one
abbrev pub FlagsSearched : List (Entry Flag) → Wish → ℕ → Result (Option Bool) TooShort → Type 0
FlagsSearched es wish frames (Err e) = frames ≤ length es
FlagsSearched es wish frames (Ok None) = (length es < frames) × ((v : Bool) → HasWished es wish v → ⊥)
FlagsSearched es wish frames (Ok (Some v)) = (length es < frames) × HasWished es wish v
