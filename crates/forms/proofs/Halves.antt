-- Prefixes cut and met: what is left of their addresses after a shift.
use Rattle.std.specs.Prelude.{◌≡◌, ℕ, suc, ◌+◌, ◌-◌, ◌*◌, ◌/◌, ◌%◌, ◌^◌, ◌<◌, ◌≤◌, ◌⊎◌, refl}
use Rattle.std.proofs.Common.{sym, ap, subst, ◌∙◌, inl, inr, add-one, arith}
use Rattle.std.proofs.Math.Decide.{ℕ_discrete}
use Rattle.std.proofs.Math.Nat.{mul-mod_left, pow-succ'}
use Rattle.std.proofs.lemmas.Nat.{pow_pos, shr-shr, shl-shr, shr_split, pow-add, div_below, mul-le, pow_below}
use Rattle.kinds.specs.Words.{Disjoint, Inside, Share, Common, Parted}
use Rattle.kinds.proofs.Relations.{not_inside_parted}
use Rattle.forms.specs.FirstBits.{In}

pub coarser : (a b i j : ℕ) → j ≤ i → a / 2 ^ j ≡ b / 2 ^ j → a / 2 ^ i ≡ b / 2 ^ i
coarser a b i j h e =
    let sum : j + (i - j) ≡ i = omega arith in
    ap (λ k. a / 2 ^ k) (sym sum) ∙ sym (shr-shr a j (i - j)) ∙ ap (λ n. n / 2 ^ (i - j)) e ∙ shr-shr b j (i - j) ∙ ap (λ k. b / 2 ^ k) sum

-- a longer prefix lies in a shorter one that holds its address
pub inside_in : (x y s j : ℕ) → j ≤ s → In x s y → Inside (In y j) (In x s)
inside_in x y s j le h v w = coarser v y s j le w ∙ h

pub disjoint_in : (x y s j : ℕ) → j ≤ s → (In x s y → ⊥) → Disjoint (In x s) (In y j)
disjoint_in x y s j le n v a b = n (sym (coarser v y s j le b) ∙ a)

pub common_in : (x y s j : ℕ) → j ≤ s → In x s y → Common (In x s) (In y j) (In y j)
common_in x y s j le h = record { left = inside_in x y s j le h; right = λ v w. w; all = λ v a b. b }

-- where split answers nothing
pub unsplit_in : (x y s j : ℕ) → s ≤ j → Disjoint (In x s) (In y j) ⊎ Inside (In x s) (In y j)
unsplit_in x y s j le =
    elim (ℕ_discrete (x / 2 ^ j) (y / 2 ^ j)) [ yes e ↦ inr (inside_in y x j s le e) | no n ↦ inl (λ v a b. disjoint_in y x j s le n v b a) ]

-- x is at the start of its block of size 2 ^ suc t: the two halves start at even and odd multiples of 2 ^ t
module _ (x t : ℕ) (clean : x % 2 ^ suc t ≡ 0) where
  pub low_half : x ≡ (2 * (x / 2 ^ suc t)) * 2 ^ t
  low_half = let whole = shr_split x (suc t) in let power = pow-succ' 2 t in let product = ap (λ n. x / 2 ^ suc t * n) power in omega arith

  pub high_half : x + 2 ^ t ≡ (2 * (x / 2 ^ suc t) + 1) * 2 ^ t
  high_half = let low = low_half in omega arith

pub clean_multiple : (x m t : ℕ) → x ≡ m * 2 ^ t → x % 2 ^ t ≡ 0
clean_multiple x m t e = ap (λ n. n % 2 ^ t) e ∙ mul-mod_left m (2 ^ t)

shift_multiple : (x m t : ℕ) → x ≡ m * 2 ^ t → x / 2 ^ t ≡ m
shift_multiple x m t e = ap (λ n. n / 2 ^ t) e ∙ shl-shr m t

next_bit : (v t : ℕ) → v / 2 ^ suc t ≡ v / 2 ^ t / 2
next_bit v t = sym (shr-shr v t 1 ∙ ap (λ k. v / 2 ^ k) (add-one t))

-- the halves of x's block, where y's block is smaller and lies in it
pub parted_in : (x y t j : ℕ) → j ≤ t → x % 2 ^ suc t ≡ 0 → In x (suc t) y → Parted (In x (suc t)) (In y j) (In x t) (In (x + 2 ^ t) t)
parted_in x y t j le clean h =
    let low = shift_multiple x _ t (low_half x t clean) in
    let high = shift_multiple (x + 2 ^ t) _ t (high_half x t clean) in
    let half : (v : ℕ) → In x (suc t) v → In x t v ⊎ In (x + 2 ^ t) t v =
    λ v a. let bit = next_bit v t in elim (ℕ_discrete (v / 2 ^ t) (x / 2 ^ t)) [ yes e ↦ inl e | no n ↦ inr (omega arith) ] in
    let apart : Disjoint (In x t) (In (x + 2 ^ t) t) = λ v a b. omega arith in
    let at_y : (v : ℕ) → In y j v → v / 2 ^ t ≡ y / 2 ^ t = λ v b. coarser v y t j le b in
    record {
      first = λ v a. coarser v x (suc t) t (omega arith) a;
      second = λ v a. let bit = next_bit v t in omega arith;
      all = half;
      apart = apart;
      one = elim (half y h) [
        | inl e ↦ inl ((y, e, refl), λ v a b. apart v (at_y v b ∙ e) a)
        | inr e ↦ inr (λ v a b. apart v a (at_y v b ∙ e), (y, e, refl))
      ];
    }

-- the same, with the shifts and the half's size as they come
pub parted_at : (x y s t j u : ℕ) → s ≡ suc t → u ≡ 2 ^ t → j ≤ t → x % 2 ^ s ≡ 0 → In x s y → Parted (In x s) (In y j) (In x t) (In (x + u) t)
parted_at x y s t j u es eu le clean h =
    let at : (n : ℕ) → n ≡ suc t → x % 2 ^ n ≡ 0 → In x n y → Parted (In x n) (In y j) (In x t) (In (x + 2 ^ t) t) =
    λ n e. subst (λ m. x % 2 ^ m ≡ 0 → In x m y → Parted (In x m) (In y j) (In x t) (In (x + 2 ^ t) t)) (sym e) (parted_in x y t j le) in
    subst (λ n. Parted (In x s) (In y j) (In x t) (In (x + n) t)) (sym eu) (at s es clean h)

pub clean_low : (x s t : ℕ) → s ≡ suc t → x % 2 ^ s ≡ 0 → x % 2 ^ t ≡ 0
clean_low x s t e clean = clean_multiple x _ t (low_half x t (subst (λ n. x % 2 ^ n ≡ 0) e clean))

pub clean_high : (x s t u : ℕ) → s ≡ suc t → u ≡ 2 ^ t → x % 2 ^ s ≡ 0 → (x + u) % 2 ^ t ≡ 0
clean_high x s t u e eu clean =
    clean_multiple (x + u) _ t (ap (λ n. x + n) eu ∙ high_half x t (subst (λ n. x % 2 ^ n ≡ 0) e clean))

-- an address at the start of its block of 32-bit addresses leaves room for the block
block_fits : (x s : ℕ) → s ≤ 32 → x < 2 ^ 32 → x % 2 ^ s ≡ 0 → x + 2 ^ s ≤ 2 ^ 32
block_fits x s le fits clean =
    let sum : 32 - s + s ≡ 32 = omega arith in
    let power : 2 ^ (32 - s) * 2 ^ s ≡ 2 ^ 32 = sym (pow-add 2 (32 - s) s) ∙ ap (λ k. 2 ^ k) sum in
    let few : x / 2 ^ s < 2 ^ (32 - s) = div_below x (2 ^ s) (2 ^ (32 - s)) (pow_pos s) (subst (λ n. x < n) (sym power) fits) in
    let room : (x / 2 ^ s + 1) * 2 ^ s ≤ 2 ^ (32 - s) * 2 ^ s = mul-le (x / 2 ^ s + 1) (2 ^ s) (2 ^ (32 - s)) (2 ^ s) (omega arith) (omega arith) in
    let whole = shr_split x s in
    omega arith

pub half_fits : (x s t : ℕ) → s ≤ 32 → t < s → x < 2 ^ 32 → x % 2 ^ s ≡ 0 → x + 2 ^ t < 2 ^ 32
half_fits x s t le lt fits clean = let room = block_fits x s le fits clean in let less = pow_below t s lt in omega arith

-- a longer prefix that lies in a shorter one crosses it
pub crossing_in : (x y s t j : ℕ) → s ≡ suc t → j ≤ t → x % 2 ^ s ≡ 0 → In x s y → Share (In x s) (In y j) × (Inside (In x s) (In y j) → ⊥)
crossing_in x y s t j e le clean h =
    let parts = parted_at x y s t j (2 ^ t) e refl le clean h in
    ((y, h, refl), not_inside_parted (In x s) (In y j) (x, refl) (x + 2 ^ t, refl) parts)
