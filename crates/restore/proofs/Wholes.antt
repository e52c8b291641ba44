-- There is one way only to write the wholes.
use Rattle.std.proofs.Common.{◌≡◌, ℕ, ◌-◌, ◌*◌, ◌/◌, ◌^◌, ◌<◌, ◌≤◌, Some, sym, ap₂, ◌∙◌, arith}
use Rattle.std.proofs.Math.Bridge.{le_prop}
use Rattle.std.proofs.Math.Nat.{ℕ_set, zero-div, mod-eq_of_lt, div-lt_iff_lt-mul}
use Rattle.std.proofs.lemmas.Nat.{pow_below, pow_pos}
use mathlib.Core.HLevel.{×_prop}
use Rattle.kinds.specs.Makes.{provided_yes}
use Rattle.forms.specs.Prefix.{prefix_holds, prefix_of}
use Rattle.forms.specs.Range.{range_holds, range_of}
use Rattle.kinds.specs.Words.{Exactly}
use Rattle.forms.specs.declared.prefix.Prefix.{Prefix}
use Rattle.forms.specs.declared.range.Range.{Range}
use Rattle.grammar.specs.Lines.{LongRest}
use Rattle.lines.specs.Wholes.{LongWholes}

reread_range : (x : Range) → range_of x.lo x.hi ≡ Some x
reread_range x = provided_yes _ _ le_prop x.ordered

reread_prefix : (x : Prefix) → prefix_of x.address x.length ≡ Some x
reread_prefix x = provided_yes _ _ (×_prop le_prop (ℕ_set _ _)) (x.short, x.clean)

-- the range that holds the numbers up to hi
up_to : (hi : ℕ) (x : Range) → Exactly (range_holds x) (λ v. v ≤ hi) → (x.lo ≡ 0) × (x.hi ≡ hi)
up_to hi x e =
    let last = e.0 x.hi (x.ordered, omega arith) in
    let first = e.1 0 (omega arith) in
    let most = e.1 hi (omega arith) in
    (omega arith, omega arith)

ranges_once : (hi : ℕ) (x y : Range) → Exactly (range_holds x) (λ v. v ≤ hi) → Exactly (range_holds y) (λ v. v ≤ hi) → x ≡ y
ranges_once hi x y d e =
    let (l, h) = up_to hi x d in
    let (m, k) = up_to hi y e in
    let same : Some x ≡ Some y = sym (reread_range x) ∙ ap₂ range_of (l ∙ sym m) (h ∙ sym k) ∙ reread_range y in
    cc

-- a number without bits past the first s
few_bits : (n s : ℕ) → n / 2 ^ s ≡ 0 → n < 2 ^ s
few_bits n s e = let few : n < 1 * 2 ^ s = (div-lt_iff_lt-mul (pow_pos s)).0 (omega arith) in omega arith

-- the prefix of all addresses
all_addresses : (x : Prefix) → Exactly (prefix_holds x) (λ v. v < 2 ^ 32) → (x.address ≡ 0) × (x.length ≡ 0)
all_addresses x e =
    let s = 32 - x.length in
    let first : x.address / 2 ^ s ≡ 0 = sym (e.1 0 (omega arith)) ∙ zero-div (2 ^ s) in
    let last : (2 ^ 32 - 1) / 2 ^ s ≡ 0 = e.1 (2 ^ 32 - 1) (omega arith) ∙ first in
    let long = few_bits (2 ^ 32 - 1) s last in
    let no_shorter : s < 32 → ⊥ = λ h. let less = pow_below s 32 h in omega arith in
    (sym (mod-eq_of_lt (few_bits x.address s first)) ∙ x.clean, omega arith)

prefixes_once : (x y : Prefix) → Exactly (prefix_holds x) (λ v. v < 2 ^ 32) → Exactly (prefix_holds y) (λ v. v < 2 ^ 32) → x ≡ y
prefixes_once x y d e =
    let (a, l) = all_addresses x d in
    let (b, m) = all_addresses y e in
    let same : Some x ≡ Some y = sym (reread_prefix x) ∙ ap₂ prefix_of (a ∙ sym b) (l ∙ sym m) ∙ reread_prefix y in
    cc

pub wholes_once : (a b : Prefix) (r q : LongRest) → LongWholes a r → LongWholes b q → (a ≡ b) × (r ≡ q)
wholes_once a b r q v w =
    let source = ranges_once 65535 r.left q.left v.source_ports w.source_ports in
    let destination = ranges_once 65535 r.right.left q.right.left v.destination_ports w.destination_ports in
    let protocol = ranges_once 255 r.right.right q.right.right v.protocols w.protocols in
    (prefixes_once a b v.addresses w.addresses, λ i. record { left = source i; right = record { left = destination i; right = protocol i } })
