-- From the numbers of a text to what a reader answers.
use Rattle.std.proofs.Common.{◌≡◌, ℕ, List, [], ◌∷◌, length, take, get_or, ◌-◌, ◌%◌, ◌^◌, ◌<◌, ◌≤◌, Ok, Err, Result, Option, sym, refl, ap₂, ◌∙◌, subst, inr, arith}
use Rattle.std.specs.Str.Parse.{digits_value}
use Rattle.kinds.specs.Set.{set_of}
use Rattle.kinds.specs.declared.set.Set.{Set}
use Rattle.spelling.specs.Letters.{IsMaskText, ReadsSet}
use Rattle.std.proofs.Math.Decide.{dec_le, dec_lt, ℕ_discrete}
use Rattle.std.specs.List.{slice_index}
use Rattle.std.specs.Option.{ok_or}
use Rattle.kinds.specs.Made.{provided, dec_both}
use Rattle.forms.specs.Prefix.{prefix_of}
use Rattle.forms.specs.declared.prefix.Prefix.{Prefix}
use Rattle.spelling.specs.Faults.{placed}
use Rattle.spelling.specs.Forms.{Spells}
use Rattle.spelling.specs.Meanings.{AddressOf, PrefixOf}
use Rattle.spelling.specs.Reads.{ReadsForm}
use Rattle.spelling.specs.declared.form.Mark.{Mark}
use Rattle.spelling.specs.declared.fault.Problem.{Problem}
use Rattle.spelling.specs.declared.fault.Problem.TheVariants.{Region}
use Rattle.spelling.specs.declared.fault.RegionFault.TheVariants.{HostBits, Empty}

-- the value of the numbers, or their problem at the first byte
pub value_read : {X : Type 0} (marks : List Mark) (means : List ℕ → Result X Problem → Type 0) (text ns : List ℕ) (r : Result X Problem)
    → Spells marks ns text → means ns r → ReadsForm marks means text (placed r 0)
value_read marks means text ns (Ok x) s m = (ns, s, m)
value_read marks means text ns (Err p) s m = inr (refl, (ns, s, m))

-- the numbers of an address before a length
pub first_three : (later : List ℕ) → length later ≡ 4 → take 3 later ≡ get_or later 0 0 ∷ get_or later 1 0 ∷ get_or later 2 0 ∷ []
first_three [] e = absurd (omega arith)
first_three (a ∷ []) e = absurd (omega arith)
first_three (a ∷ (b ∷ [])) e = absurd (omega arith)
first_three (a ∷ (b ∷ (c ∷ later))) e = refl

-- the prefix of an address and a length, or that a host's bit is set
pub prefix_made : (address length : ℕ) (made : Option Prefix) (ns : List ℕ) → made ≡ prefix_of address length → AddressOf (take 4 ns) (Ok address) → length ≡ slice_index ns 4 → length ≤ 32
    → PrefixOf ns (ok_or made (Region HostBits))
prefix_made address length made ns is right same short =
    subst (λ o. PrefixOf ns (ok_or o (Region HostBits))) (sym is) (elim (dec_both (dec_le length 32) (ℕ_discrete (address % 2 ^ (32 - length)) 0)) as (λ d. PrefixOf ns (ok_or (provided d (λ h. record { address = address; length = length; short = h.0; clean = h.1 })) (Region HostBits))) [
      | yes h ↦ (right, same)
      | no wrong ↦ inr (refl, right.0, subst (λ l. l ≤ 32) same short, λ clean. wrong (short, ap₂ (λ a l. a % 2 ^ (32 - l)) right.1 same ∙ clean))
    ])

zero_or : (m : ℕ) → (0 < m → ⊥) → m ≡ 0
zero_or m n = omega arith

-- the set of a mask, or that the mask is 0
pub set_made : (mask : ℕ) (made : Option Set) (text : List ℕ) → mask < 2 ^ 32 → made ≡ set_of mask → IsMaskText text → mask ≡ digits_value 16 text
    → ReadsSet text (ok_or made (record { problem = Region Empty; byte = 0 }))
set_made mask made text few is right value =
    subst (λ o. ReadsSet text (ok_or o (record { problem = Region Empty; byte = 0 }))) (sym is) (elim (dec_both (dec_lt 0 mask) (dec_lt mask (2 ^ 32))) as (λ d. ReadsSet text (ok_or (provided d (λ h. record { mask = mask; some = h.0; few = h.1 })) (record { problem = Region Empty; byte = 0 }))) [
      | yes h ↦ (right, value)
      | no wrong ↦ inr (refl, (right, (let none : mask ≡ 0 = zero_or mask (λ some. wrong (some, few)) in sym value ∙ none), refl))
    ])
