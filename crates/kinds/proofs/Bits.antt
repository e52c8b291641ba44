-- Masks cut and met, bit by bit.
use Rattle.std.specs.Prelude.{◌≡◌, ℕ, suc, ◌+◌, ◌-◌, ◌*◌, ◌/◌, ◌%◌, ◌^◌, ◌<◌, ◌≤◌, ◌⊎◌, MatchOption, bit_xor, refl}
use Rattle.std.proofs.Common.{sym, ap, ap₂, ◌∙◌, inl, inr, arith, pow_mono}
use Rattle.std.proofs.Math.Nat.{div-eq_of_lt, zero-div, pow-succ'}
use Rattle.std.proofs.Math.Decide.{dec_lt}
use Rattle.std.specs.Int.Bits.{bit_and}
use Rattle.std.proofs.lemmas.Nat.{and_shr, and_mod, and_comm, and_le_l, xor_shr, xor_mod, xor_lt, pow_pos, pow-add, pow_below, shr_high, shl-shr}
use Rattle.std.proofs.lemmas.Bool.{cases_lt, cases_order}
use Rattle.kinds.specs.Made.{dec_both}
use Rattle.kinds.specs.Set.{set_of}
use Rattle.kinds.specs.declared.set.Set.{Set}
use Rattle.kinds.proofs.Provided.{provided_cases}
use Rattle.kinds.specs.Masks.{Bit, top_bit, some_bit}
use Rattle.kinds.specs.Words.{Disjoint, Inside, Share, Common, Parted, Exactly}

bit_cases : (n : ℕ) → (n % 2 ≡ 0) ⊎ (n % 2 ≡ 1)
bit_cases n = elim (cases_lt (n % 2) 1) [ inl h ↦ inl (omega arith) | inr h ↦ inr (omega arith) ]

pub and_bit : (a b v : ℕ) → bit_and a b / 2 ^ v % 2 ≡ bit_and (a / 2 ^ v % 2) (b / 2 ^ v % 2)
and_bit a b v = ap (λ n. n % 2) (and_shr a b v) ∙ and_mod (a / 2 ^ v) (b / 2 ^ v) 1

pub xor_bit : (a b v : ℕ) → bit_xor a b / 2 ^ v % 2 ≡ bit_xor (a / 2 ^ v % 2) (b / 2 ^ v % 2)
xor_bit a b v = ap (λ n. n % 2) (xor_shr a b v) ∙ xor_mod (a / 2 ^ v) (b / 2 ^ v) 1

pub no_bit_of_zero : (m v : ℕ) → m ≡ 0 → Bit m v → ⊥
no_bit_of_zero m v e h =
    let zero : m / 2 ^ v % 2 ≡ 0 = ap (λ n. n / 2 ^ v % 2) e ∙ ap (λ n. n % 2) (zero-div (2 ^ v)) in
    omega arith

pub and_common : (a b : ℕ) → Common (Bit a) (Bit b) (Bit (bit_and a b))
and_common a b = record {
  left = λ v h. elim (bit_cases (a / 2 ^ v)) [
    | inl z ↦ absurd (let none = and_bit a b v ∙ ap (λ n. bit_and n (b / 2 ^ v % 2)) z in omega arith)
    | inr o ↦ o
  ];
  right = λ v h. elim (bit_cases (b / 2 ^ v)) [
    | inl z ↦ absurd (let none = and_bit a b v ∙ and_comm (a / 2 ^ v % 2) (b / 2 ^ v % 2) ∙ ap (λ n. bit_and n (a / 2 ^ v % 2)) z in omega arith)
    | inr o ↦ o
  ];
  all = λ v x y. and_bit a b v ∙ ap₂ bit_and x y;
}

-- the bits of a that b lacks
abbrev pub others : ℕ → ℕ → ℕ
others a b = bit_xor a (bit_and a b)

others_bit : (a b v : ℕ) → others a b / 2 ^ v % 2 ≡ bit_xor (a / 2 ^ v % 2) (bit_and (a / 2 ^ v % 2) (b / 2 ^ v % 2))
others_bit a b v = xor_bit a (bit_and a b) v ∙ ap (bit_xor (a / 2 ^ v % 2)) (and_bit a b v)

at_bits : (a b v x y : ℕ) → a / 2 ^ v % 2 ≡ x → b / 2 ^ v % 2 ≡ y → others a b / 2 ^ v % 2 ≡ bit_xor x (bit_and x y)
at_bits a b v x y d e = others_bit a b v ∙ ap₂ (λ p q. bit_xor p (bit_and p q)) d e

others_in : (a b v : ℕ) → Bit (others a b) v → Bit a v
others_in a b v h = elim (bit_cases (a / 2 ^ v)) [
  | inl z ↦ absurd (let none : others a b / 2 ^ v % 2 ≡ 0 = at_bits a b v 0 _ z refl in omega arith)
  | inr o ↦ o
]

others_out : (a b : ℕ) → Disjoint (Bit (others a b)) (Bit b)
others_out a b v h k =
    let none : others a b / 2 ^ v % 2 ≡ 0 = at_bits a b v 1 1 (others_in a b v h) k in
    omega arith

in_others : (a b v : ℕ) → Bit a v → (b / 2 ^ v % 2 ≡ 0) → Bit (others a b) v
in_others a b v h k = at_bits a b v 1 0 h k

pub parted_bits : (a b : ℕ) → a < 2 ^ 32 → 0 < bit_and a b → 0 < others a b → Parted (Bit a) (Bit b) (Bit (bit_and a b)) (Bit (others a b))
parted_bits a b few some more =
    let common = and_common a b in
    let shared = some_bit (bit_and a b) some (omega (arith, and_le_l a b)) in
    record {
      first = common.left;
      second = others_in a b;
      all = λ v h. elim (bit_cases (b / 2 ^ v)) [ inl z ↦ inr (in_others a b v h z) | inr o ↦ inl (common.all v h o) ];
      apart = λ v h k. others_out a b v k (common.right v h);
      one = inl ((shared.0, shared.1, common.right shared.0 shared.1), others_out a b);
    }

-- how a set lies to another, by the bits that they share and those that the other lacks
pub apart_bits : (a b : ℕ) → bit_and a b ≡ 0 → Disjoint (Bit a) (Bit b)
apart_bits a b e v h k = no_bit_of_zero (bit_and a b) v e ((and_common a b).all v h k)

pub inside_bits : (a b : ℕ) → others a b ≡ 0 → Inside (Bit a) (Bit b)
inside_bits a b e v h = elim (bit_cases (b / 2 ^ v)) [ inl z ↦ absurd (no_bit_of_zero (others a b) v e (in_others a b v h z)) | inr o ↦ o ]

-- where split answers nothing
pub unsplit_bits : (a b : ℕ) → (bit_and a b ≡ 0) ⊎ (others a b ≡ 0) → Disjoint (Bit a) (Bit b) ⊎ Inside (Bit a) (Bit b)
unsplit_bits a b (inl e) = inl (apart_bits a b e)
unsplit_bits a b (inr e) = inr (inside_bits a b e)

pub meet_bits : (a b : ℕ) → a < 2 ^ 32 → MatchOption (set_of (bit_and a b)) (Disjoint (Bit a) (Bit b)) (λ m. Common (Bit a) (Bit b) (Bit m.mask))
meet_bits a b few =
    provided_cases (dec_both (dec_lt 0 (bit_and a b)) (dec_lt (bit_and a b) (2 ^ 32))) (λ h. record { mask = bit_and a b; some = h.0; few = h.1 })
    (Disjoint (Bit a) (Bit b)) (λ (m : Set). Common (Bit a) (Bit b) (Bit m.mask))
    (λ n v h k. elim (cases_lt 0 (bit_and a b)) [
      | inl some ↦ n (some, omega (arith, and_le_l a b))
      | inr none ↦ no_bit_of_zero (bit_and a b) v (omega arith) ((and_common a b).all v h k)
    ])
    (λ h. and_common a b)

-- 2 ^ k taken apart at bit v
power_at : (k v : ℕ) → v ≤ k → 2 ^ k ≡ 2 ^ (k - v) * 2 ^ v
power_at k v le = let sum : k - v + v ≡ k = omega arith in sym (ap (λ n. 2 ^ n) sum) ∙ pow-add 2 (k - v) v

-- what is left of it there is even
even_at : (k v : ℕ) → v < k → (m : ℕ) × (2 ^ (k - v) ≡ 2 * m + 2)
even_at k v lt =
    let one_less : k - v ≡ suc (k - v - 1) = omega arith in
    let power = ap (λ n. 2 ^ n) one_less ∙ pow-succ' 2 (k - v - 1) in
    let some = pow_pos (k - v - 1) in
    (2 ^ (k - v - 1) - 1, omega arith)

-- k ones in a row are the bits below k
pub ones_bits : (k : ℕ) → Exactly (Bit (2 ^ k - 1)) (λ v. v < k)
ones_bits k = (
  λ v h. elim (cases_lt v k) [
    | inl low ↦ low
    | inr high ↦ absurd (let power : 2 ^ k ≤ 2 ^ v = pow_mono high in let some = pow_pos k in let gone : (2 ^ k - 1) / 2 ^ v ≡ 0 = div-eq_of_lt (omega arith) in omega arith)
  ],
  λ v low.
      let half = even_at k v low in
      let m = half.0 in
      let power : 2 ^ k ≡ (2 * m + 2) * 2 ^ v = power_at k v (omega arith) ∙ ap (λ n. n * 2 ^ v) half.1 in
      let some = pow_pos v in
      let whole : 2 ^ k - 1 ≡ (2 * m + 1) * 2 ^ v + (2 ^ v - 1) = omega arith in
      let quotient : (2 ^ k - 1) / 2 ^ v ≡ 2 * m + 1 = ap (λ n. n / 2 ^ v) whole ∙ shr_high (2 * m + 1) v (2 ^ v - 1) (omega arith) in
      omega arith,
)

-- one bit
pub single_bit : (k : ℕ) → Exactly (Bit (2 ^ k)) (λ v. v ≡ k)
single_bit k = (
  λ v h. elim (cases_order v k) [
    | inl e ↦ e
    | inr (inl low) ↦ absurd (
        let half = even_at k v low in
        let quotient : 2 ^ k / 2 ^ v ≡ 2 ^ (k - v) = ap (λ n. n / 2 ^ v) (power_at k v (omega arith)) ∙ shl-shr (2 ^ (k - v)) v in
        omega (arith, half.1))
    | inr (inr high) ↦ absurd (let less = pow_below k v high in let gone : 2 ^ k / 2 ^ v ≡ 0 = div-eq_of_lt less in omega arith)
  ],
  λ v e. top_bit (2 ^ k) v (omega (arith, ap (λ n. 2 ^ n) e)) (let some = pow_pos v in omega (arith, ap (λ n. 2 ^ n) e)),
)

pub crossing_bits : (a b : ℕ) → a < 2 ^ 32 → 0 < bit_and a b → 0 < others a b → Share (Bit a) (Bit b) × (Inside (Bit a) (Bit b) → ⊥)
crossing_bits a b few some more =
    let common = and_common a b in
    let shared = some_bit (bit_and a b) some (omega (arith, and_le_l a b)) in
    let other = some_bit (others a b) more (xor_lt 32 _ _ few (omega (arith, and_le_l a b))) in (
      (shared.0, common.left shared.0 shared.1, common.right shared.0 shared.1),
      λ i. others_out a b other.0 other.1 (i other.0 (others_in a b other.0 other.1)),
    )
